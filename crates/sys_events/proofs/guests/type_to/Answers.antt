use Rattle.sys_events.proofs.Obeying.{guest_types}
use Rattle.sys_events.proofs.guests.type_to.Goals as goal

pub returns-clause-does : goal.returns-clause-does
returns-clause-does c = guest_types c.args.kernel.now c.type_at.new.guests c.args.guest c.args.text.now c.type_at.ensures.turns
