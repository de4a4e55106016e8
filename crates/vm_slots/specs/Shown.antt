-- Worked examples: a context that comes back, and a fifth context.
use Rattle.std.specs.Prelude.{◌≡◌, ℕ, true, [], ◌∷◌, Some, None, refl}
use Rattle.vm_slots.specs.declared.context.Context.{Context}
use Rattle.vm_slots.specs.Held.{Held, slot_of, without, others_held, brought_forward}

abbrev under : ℕ → Context
under p0br = record { mapped = true; p0br = p0br; p0lr = 8; p1br = 0; p1lr = 0 }

-- four contexts after they were taken in turn
abbrev four : Held
four = (under 4, 3) ∷ (under 3, 2) ∷ (under 2, 1) ∷ (under 1, 0) ∷ []

pub a_held_one : slot_of (under 2) four ≡ Some 1
a_held_one = refl

pub the_others : without (under 2) four ≡ (under 4, 3) ∷ (under 3, 2) ∷ (under 1, 0) ∷ []
the_others = refl

pub a_fifth : slot_of (under 5) four ≡ None
a_fifth = refl

pub beside_a_fifth : others_held (under 5) four ≡ (under 4, 3) ∷ (under 3, 2) ∷ (under 2, 1) ∷ []
beside_a_fifth = refl

pub comes_back : brought_forward (under 2) (under 4 ∷ under 3 ∷ under 2 ∷ under 1 ∷ []) ≡ under 2 ∷ under 4 ∷ under 3 ∷ under 1 ∷ []
comes_back = refl

pub drops_the_last : brought_forward (under 5) (under 4 ∷ under 3 ∷ under 2 ∷ under 1 ∷ []) ≡ under 5 ∷ under 4 ∷ under 3 ∷ under 2 ∷ []
drops_the_last = refl
