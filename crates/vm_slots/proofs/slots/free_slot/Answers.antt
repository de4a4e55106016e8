use Rattle.std.proofs.Common.{ℕ, ◌≡◌, inl, inr, arith, subst, Any}
use Rattle.std.proofs.lemmas.Bool.{cases_lt}
use Rattle.vm_slots.proofs.HeldLaws.{last_is_free}
use Rattle.vm_slots.proofs.slots.free_slot.Goals as goal

pub loop-slot-preserved : goal.loop-slot-preserved
loop-slot-preserved c = λ s below.
    elim (cases_lt s c.loop-slot.slot) [
      | inl earlier ↦ c.loop-slot.invariant s earlier
      | inr here ↦
          let same : c.loop-slot.slot ≡ s = omega arith in
          let P : ℕ → Type 0 = λ n. Any (λ h. h.1 ≡ n) c.args.held.now in
          subst P same c.if-is_free.ensures
    ]

pub returns : goal.returns
returns c = last_is_free c.args.held.now c.requires (λ s below. c.loop-slot.invariant s (omega arith))
