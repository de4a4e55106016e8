use Rattle.std.proofs.Common.{◌≡◌, arith}
use Rattle.sys_guests.proofs.Present.{one_pays}
use Rattle.sys_guests.proofs.Turning.{advanced, of_one}
use Rattle.vm_exception.specs.Noted.{note_of}
use Rattle.vm_state.specs.State.{Guest}
use Rattle.sys_guests.proofs.turns.step_at.Goals as goal

pub returns-clause-advances : goal.returns-clause-advances
returns-clause-advances g c = advanced c.args.guests.now.items c.index_mut-guest.result.now _ _ _ _ _ (record { guest = c.args.place; steps = 1 }) _ (omega arith) c.index_mut-guest.ensures.value c.requires.stand (omega arith) c.clear.ensures c.step.ensures.advances

pub returns-clause-pays : goal.returns-clause-pays
returns-clause-pays g c = one_pays c.args.guests.now.items (record { guest = c.args.place; steps = 1 }) c.index_mut-guest.result.now _ (g.H.Hardware.machine c.args.machine.now) _ (omega arith) c.index_mut-guest.ensures.value c.step.ensures.pays

pub returns-clause-note : goal.returns-clause-note
returns-clause-note g c = of_one c.args.guests.now.items c.args.place c.index_mut-guest.result.now (g.H.Hardware.machine c.args.machine.now).memory (λ (h : Guest). c.step.result.note ≡ note_of h) (omega arith) c.index_mut-guest.ensures.value c.step.ensures.note
