use Rattle.std.proofs.Common.{◌≡◌, ◌<◌, ℕ, Any}
use Rattle.vm_slots.proofs.slots.free_slot.Given as goal

abbrev pub invariant-loop-slot : goal.invariant-loop-slot
invariant-loop-slot l = (s : ℕ) → s < l.slot → Any (λ h. h.1 ≡ s) l.held
