use Rattle.std.proofs.Common.{arith}
use Rattle.sys_guests.proofs.Present.{one_same}
use Rattle.sys_guests.proofs.Turning.{line_typed}
use Rattle.sys_guests.proofs.turns.type_at.Goals as goal

pub returns-clause-turns : goal.returns-clause-turns
returns-clause-turns c = line_typed c.args.guests.now.items c.args.place c.args.text.now c.index_mut-guest.result.now _ (omega arith) c.index_mut-guest.ensures.value c.type_line.ensures

pub returns-clause-present : goal.returns-clause-present
returns-clause-present c = one_same c.args.guests.now.items c.args.place c.index_mut-guest.result.now _ (omega arith) c.index_mut-guest.ensures.value c.type_line.ensures.shadow
