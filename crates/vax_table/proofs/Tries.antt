-- What a try over one space says of one over another, and of what is stored.
use Rattle.std.proofs.Common.{◌≡◌, ℕ, Bool, true, false, List, [], ◌∷◌, Some, Result, Ok, Err, refl, ap, ◌∙◌}
use Rattle.std.specs.Prelude.{if◌then◌else◌}
use Rattle.vax_table.specs.Claims.{claims}
use Rattle.vax_table.specs.Effects.{Effect}
use Rattle.vax_table.specs.PlanLaws.{bytes_of_stores}
use Rattle.vax_table.specs.Interaction.{Interaction, Space, Trouble, At, Test, Below, AsFar, outcome}
use Rattle.vax_table.specs.Tries.{IsMarkedAtLeast, TriedFar, first_clear, tried, tried_by, unless_clear}
use Rattle.vax_table.specs.Whole.{Plain, instruction, meant}
use Rattle.vax_table.proofs.Claims.{claims_same}
use Rattle.vax_table.proofs.Scripts.{outcome_far}
use Rattle.vax_table.proofs.Wholes.{exactly_claimed}

clear_far_at : {A : Type 0} (s t : Space) (c d : ℕ → Bool) (a : A) (va : ℕ) (vas : List ℕ) → IsMarkedAtLeast c d → (x : Bool) → c va ≡ x →
    TriedFar s t c d (unless_clear a (first_clear c vas)) (unless_clear a (first_clear d vas)) →
    TriedFar s t c d (unless_clear a (if x then Some va else first_clear c vas)) (unless_clear a (if d va then Some va else first_clear d vas))
clear_far_at s t c d a va vas mark true is far = (is, λ h. ap (λ z. unless_clear a (if z then Some va else first_clear d vas)) h)
clear_far_at s t c d a va vas mark false is far = rw (mark va is) far

clear_far : {A : Type 0} (s t : Space) (c d : ℕ → Bool) (a : A) (vas : List ℕ) → IsMarkedAtLeast c d → TriedFar s t c d (unless_clear a (first_clear c vas)) (unless_clear a (first_clear d vas))
clear_far s t c d a [] mark = refl
clear_far s t c d a (va ∷ vas) mark = clear_far_at s t c d a va vas mark (c va) refl (clear_far s t c d a vas mark)

tried_far_on : {A : Type 0} (s t : Space) (c d : ℕ → Bool) (m : Interaction A) → Below s t → IsMarkedAtLeast c d → (r q : Result A Trouble) → outcome s m ≡ r → AsFar s t r q → TriedFar s t c d (tried_by c (claims s m) r) (tried_by d (claims t m) q)
tried_far_on s t c d m below mark (Ok a) q is far =
    let same : claims t m ≡ claims s m = claims_same s t below m a is in
    rw (far, same) (clear_far s t c d a (claims s m) mark)
tried_far_on s t c d m below mark (Err (Test k)) q is far = ap (tried_by d (claims t m)) far
tried_far_on s t c d m below mark (Err (At x i a)) q is far = (far.0, λ y h. ap (tried_by d (claims t m)) (far.1 y h))

-- of any interaction
pub tried_far : {A : Type 0} (s t : Space) (c d : ℕ → Bool) (m : Interaction A) → Below s t → IsMarkedAtLeast c d → TriedFar s t c d (tried s c m) (tried t d m)
tried_far s t c d m below mark = tried_far_on s t c d m below mark (outcome s m) (outcome t m) refl (outcome_far s t below m)

pub tries_stores : (is_kernel : Bool) (psl : ℕ) (r : List ℕ) (s : Space) (is_clear : ℕ → Bool) (opcode : ℕ) (e : Effect) →
    outcome s (instruction is_kernel psl r) ≡ Ok (meant opcode (Plain e)) →
    tried s is_clear (instruction is_kernel psl r) ≡ unless_clear (meant opcode (Plain e)) (first_clear is_clear (bytes_of_stores e.writes))
tries_stores is_kernel psl r s is_clear opcode e h =
    ap (tried_by is_clear (claims s (instruction is_kernel psl r))) h
    ∙ ap (λ (vas : List ℕ). unless_clear (meant opcode (Plain e)) (first_clear is_clear vas)) (exactly_claimed is_kernel psl r s opcode e h)
