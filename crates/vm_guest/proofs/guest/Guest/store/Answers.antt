use Rattle.std.proofs.Common.{subst, sym}
use Rattle.vm_simulation_laws.specs.Present.{HasPresent}
use Rattle.vm_guest.specs.Kept.{IsShadowedIn, Kept, frames_from, guest_in}
use Rattle.vm_guest.proofs.Becoming.{stored_present}
use Rattle.vm_state.specs.Touches.{Present, touching_write}
use Rattle.vm_guest.proofs.guest.Guest.store.Goals as goal

pub returns-clause-present : goal.returns-clause-present
returns-clause-present g c =
    let before = g.H.Hardware.machine c.args.machine.now in
    subst (λ (k : Kept). (p : Present) → HasPresent k.shadow p → HasPresent c.store_all.new.s (touching_write (guest_in before.memory k) (frames_from c.args.pa c.args.bytes.now) p)) c.self.view_is
    (stored_present before (record { state = c.self.inside.state; shadow = c.self.inside.shadow }) c.args.pa c.args.bytes.now (g.H.Hardware.machine c.store_all.new.machine) c.store_all.new.s (subst (IsShadowedIn before.memory) (sym c.self.view_is) c.requires.stands) c.store_all.ensures)
