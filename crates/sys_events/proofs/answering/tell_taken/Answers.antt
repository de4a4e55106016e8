use Rattle.std.proofs.Common.{◌≤◌, length, ap, arith}
use Rattle.sys_events.proofs.Replying.{no_puts, taken_past}
use Rattle.sys_events.specs.Saying.{taken_puts}
use Rattle.sys_events.proofs.answering.tell_taken.Goals as goal

pub returns-else-terminal-terminals : goal.returns-else-terminal-terminals
returns-else-terminal-terminals g c =
    let past : length c.args.config.now.terminals ≤ c.in-Some.terminal = omega (arith, ap length c.as_slice-terminals.ensures) in
    no_puts _ _ (taken_puts c.args.config.now c.args.taken) (taken_past c.args.config.now c.args.taken c.in-Some.terminal c.in-Some.is past)
