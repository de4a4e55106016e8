use Rattle.std.proofs.Common.{◌≡◌, ◌==◌, ap, sym, ◌∙◌, length}
use Rattle.std.proofs.lemmas.Bool.{OnTrue_from, eqb-true}
use Rattle.vm_slots.specs.Held.{Held, without, others_held}
use Rattle.vm_slots.proofs.HeldLaws.{slot_is, front_law, gone_law, forward_law}
use Rattle.vm_slots.proofs.slots.Slots.take.Goals as goal

pub invariant_of-self : goal.invariant_of-self
invariant_of-self c =
    let old = c.args.self.now in
    let stay : c.keep_others-evicted.new.held.items ≡ others_held c.args.c.now old = c.keep_others-evicted.ensures.stay ∙ ap (others_held c.args.c.now) c.self.view_is in
    let slot = slot_is c.args.c.now old c.as_slice.result.now c.find-found.result c.slot_for-slot.result c.find-found.ensures.value (c.as_slice.ensures.value ∙ stay) c.slot_for-slot.ensures in
    rw (c.insert.ensures.items, stay) (front_law c.args.c.now c.slot_for-slot.result old c.find-found.ensures.facts slot)

pub returns-clause-facts : goal.returns-clause-facts
returns-clause-facts c = invariant_of-self c

pub returns-clause-gone : goal.returns-clause-gone
returns-clause-gone c =
    let old = c.args.self.now in
    let stay : c.keep_others-evicted.new.held.items ≡ others_held c.args.c.now old = c.keep_others-evicted.ensures.stay ∙ ap (others_held c.args.c.now) c.self.view_is in
    let slot = slot_is c.args.c.now old c.as_slice.result.now c.find-found.result c.slot_for-slot.result c.find-found.ensures.value (c.as_slice.ensures.value ∙ stay) c.slot_for-slot.ensures in
    let are_four = c.keep_others-evicted.ensures.four ∙ ap (λ (held : Held). length (without c.args.c.now held) == 4) c.self.view_is in
    OnTrue_from _ _ (λ yes. gone_law c.args.c.now c.slot_for-slot.result old c.find-found.ensures.facts slot (eqb-true (length (without c.args.c.now old)) 4 (sym are_four ∙ yes)))

pub returns-clause-contexts : goal.returns-clause-contexts
returns-clause-contexts c =
    let old = c.args.self.now in
    let stay : c.keep_others-evicted.new.held.items ≡ others_held c.args.c.now old = c.keep_others-evicted.ensures.stay ∙ ap (others_held c.args.c.now) c.self.view_is in
    rw (c.insert.ensures.items, stay) (forward_law c.args.c.now c.slot_for-slot.result old)
