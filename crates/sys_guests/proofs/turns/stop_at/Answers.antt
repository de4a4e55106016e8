use Rattle.std.proofs.Common.{arith}
use Rattle.sys_guests.proofs.Present.{one_same}
use Rattle.sys_guests.proofs.Turning.{said, stopped}
use Rattle.sys_guests.proofs.turns.stop_at.Goals as goal

pub returns-clause-turns : goal.returns-clause-turns
returns-clause-turns c = stopped c.args.guests.now.items c.args.place c.index_mut-guest.result.now _ (omega arith) c.index_mut-guest.ensures.value c.stop.ensures.turns

pub returns-clause-shown : goal.returns-clause-shown
returns-clause-shown c = said c.args.guests.now.items c.args.place c.index_mut-guest.result.now _ _ (omega arith) c.index_mut-guest.ensures.value c.clear.ensures c.stop.ensures.shown

pub returns-clause-present : goal.returns-clause-present
returns-clause-present c = one_same c.args.guests.now.items c.args.place c.index_mut-guest.result.now _ (omega arith) c.index_mut-guest.ensures.value c.stop.ensures.turns.shadow
