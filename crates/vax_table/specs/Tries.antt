-- A try of an instruction over a space in which some written bytes have a clear modify bit (VAX Architecture Reference Manual:
-- page table entry, modify bit; Hall and Robinson, Virtualizing the VAX Architecture, ISCA 1991: modify fault).
use Rattle.std.specs.Prelude.{◌≡◌, ℕ, Bool, true, false, if◌then◌else◌, List, [], ◌∷◌, Option, Some, None, Result, Ok, Err}
use Rattle.vax_table.specs.Claims.{claims}
use Rattle.vax_table.specs.Interaction.{Interaction, Space, Trouble, At, Test, Cause, outcome}

pub data Tried (A : Type 0) : Type 0 where
  Completes : A → Tried A
  -- it would complete; the address of the first byte that it claims for writing whose modify bit is clear
  Clear : ℕ → Tried A
  Stopped : Trouble → Tried A

-- the first of these addresses whose modify bit is clear
abbrev pub first_clear : (ℕ → Bool) → List ℕ → Option ℕ
first_clear is_clear [] = None
first_clear is_clear (a ∷ rest) = if is_clear a then Some a else first_clear is_clear rest

abbrev pub unless_clear : {A : Type 0} → A → Option ℕ → Tried A
unless_clear a None = Completes a
unless_clear a (Some va) = Clear va

-- an outcome, given what was claimed: a trouble comes before any clear modify bit
abbrev pub tried_by : {A : Type 0} → (ℕ → Bool) → List ℕ → Result A Trouble → Tried A
tried_by is_clear claimed (Ok a) = unless_clear a (first_clear is_clear claimed)
tried_by is_clear claimed (Err t) = Stopped t

abbrev pub tried : {A : Type 0} → Space → (ℕ → Bool) → Interaction A → Tried A
tried s is_clear m = tried_by is_clear (claims s m) (outcome s m)

-- Of two spaces the second answers wherever the first does, and its modify bits are set wherever those of the first are.
abbrev pub IsMarkedAtLeast : (ℕ → Bool) → (ℕ → Bool) → Type 0
IsMarkedAtLeast below above = (va : ℕ) → below va ≡ false → above va ≡ false

-- A try over the second, given one over the first: the same, but where the first stopped at an access at which it is silent, or
-- at a clear bit that is set above. There the second stops at its own trouble or clear bit, or goes on.
abbrev pub TriedFar : {A : Type 0} → Space → Space → (ℕ → Bool) → (ℕ → Bool) → Tried A → Tried A → Type 0
TriedFar s t below above (Completes a) r = r ≡ Completes a
TriedFar s t below above (Clear va) r = (below va ≡ true) × (above va ≡ true → r ≡ Clear va)
TriedFar s t below above (Stopped (Test k)) r = r ≡ Stopped (Test k)
TriedFar s t below above (Stopped (At c i a)) r = (s i a ≡ Err c) × ((d : Cause) → t i a ≡ Err d → r ≡ Stopped (At d i a))
