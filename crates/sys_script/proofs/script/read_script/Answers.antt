use Rattle.std.proofs.Common.{◌+◌}
use Rattle.sys_script.proofs.Ordered.{are_events}
use Rattle.sys_script.proofs.Reading.{all_read}
use Rattle.sys_script.proofs.script.read_script.Goals as goal

pub returns-clause-events : goal.returns-clause-events
returns-clause-events c =
    are_events c.args.b.now c.loop-line.events.items
    (all_read c.args.b.now c.loop-line.rest.now c.loop-line.events.items (c.loop-line.number + 1) c.loop-line.last c.loop-line.invariant.rest c.in_default.ensures.first)
