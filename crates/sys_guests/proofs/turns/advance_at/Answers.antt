use Rattle.std.proofs.Common.{arith}
use Rattle.sys_guests.proofs.Present.{one_pays}
use Rattle.sys_guests.proofs.Turning.{advanced}
use Rattle.sys_guests.proofs.turns.advance_at.Goals as goal

pub returns-clause-advances : goal.returns-clause-advances
returns-clause-advances g c = advanced c.args.guests.now.items c.index_mut-guest.result.now _ _ _ _ _ (record { guest = c.args.slice.guest; steps = c.args.slice.steps }) _ (omega arith) c.index_mut-guest.ensures.value c.requires.stand (omega arith) c.clear.ensures c.advance.ensures.advances

pub returns-clause-pays : goal.returns-clause-pays
returns-clause-pays g c = one_pays c.args.guests.now.items (record { guest = c.args.slice.guest; steps = c.args.slice.steps }) c.index_mut-guest.result.now _ (g.H.Hardware.machine c.args.machine.now) _ (omega arith) c.index_mut-guest.ensures.value c.advance.ensures.pays
