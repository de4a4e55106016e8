-- First touches of several guests: what is present by them has entries in each guest's shadow page tables, and they count at
-- least the machine's misses.
use Rattle.std.specs.Prelude.{ℕ, ◌+◌, ◌≤◌, List, [], ◌∷◌}
use Rattle.std.specs.List.{sum_by}
use Rattle.vax_hw.specs.Machine.{Machine}
use Rattle.vm_simulation_laws.specs.Paid.{Misses}
use Rattle.vm_simulation_laws.specs.Present.{HasPresent}
use Rattle.vm_guest.specs.Kept.{Kept}
use Rattle.vm_state.specs.Touches.{Touching}

-- guest by guest
abbrev pub HavePresent : List Kept → List Touching → Type 0
HavePresent [] [] = Unit {0}
HavePresent [] (t ∷ ts) = ⊥
HavePresent (k ∷ ks) [] = ⊥
HavePresent (k ∷ ks) (t ∷ ts) = HasPresent k.shadow t.present × HavePresent ks ts

-- What first touches leave of what is present has entries then, if it had before.
abbrev pub KeepsAll : (List Touching → List Touching) → List Kept → List Kept → Type 0
KeepsAll left ks ks' = (ts : List Touching) → HavePresent ks ts → HavePresent ks' (left ts)

-- how many touches are counted
abbrev pub counted_in : List Touching → ℕ
counted_in ts = sum_by (λ t. t.count) ts

-- A change of first touches counts at least the misses, and what is present after it has entries.
pub record PaysAll (touching : List Touching → List Touching) (m : Machine) (ks : List Kept) (m' : Machine) (ks' : List Kept) : Type 0 where
  pub missed : ℕ
  pub misses : Misses missed m m'
  pub counts : (ts : List Touching) → HavePresent ks ts → counted_in ts + missed ≤ counted_in (touching ts)
  pub has : (ts : List Touching) → HavePresent ks ts → HavePresent ks' (touching ts)
