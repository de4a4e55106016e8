-- Devices that are synced, one after another.
use Rattle.std.proofs.Common.{ℕ, ◌≡◌, ◌≢◌, ◌<◌, ◌≤◌, ◌+◌, ◌==◌, List, length, slice_index_or, slice_set, Bool, true, false, Option, Some, None, refl, sym, ◌∙◌, ap, subst, arith}
use Rattle.std.proofs.lemmas.Bool.{eqb-false, eqb-true}
use Rattle.std.proofs.lemmas.List.{get_or-set_other, get_or-set_same, set-get_or}
use Rattle.vv_io.specs.Causes.{Rose}
use Rattle.sys_devices.specs.Syncing.{FailedFirst, first_fault}

-- by cases on whether a test holds
both : {P : Type 0} (b : Bool) → (b ≡ true → P) → (b ≡ false → P) → P
both true f g = f refl
both false f g = g refl

-- n are synced, and the others are as at the start.
pub record AreSynced {V : Type 0} (none : V) (faults : V → ℕ) (IsStill : V → V → Type 0) (n : ℕ) (start now : List V) (failed : Option ℕ) : Type 0 where
  pub rest : (j : ℕ) → n ≤ j → slice_index_or now j none ≡ slice_index_or start j none
  pub still : (j : ℕ) → IsStill (slice_index_or start j none) (slice_index_or now j none)
  pub first : FailedFirst n none faults start now failed

-- What one sync of the next does: it is what it was unless it fails, and then its count rose.
pub record IsOne {V : Type 0} (none : V) (faults : V → ℕ) (IsStill : V → V → Type 0) (n : ℕ) (now after : List V) (fails : Bool) : Type 0 where
  pub new : V
  pub is : after ≡ slice_set now n new
  pub there : n < length now
  pub still : IsStill (slice_index_or now n none) new
  pub same : fails ≡ false → new ≡ slice_index_or now n none
  pub rose : fails ≡ true → Rose (faults (slice_index_or now n none)) (faults new)

-- a first fault among n is one among one more
one_more : {V : Type 0} (none : V) (faults : V → ℕ) (n : ℕ) (start now : List V) (failed : Option ℕ) → FailedFirst n none faults start now failed → FailedFirst (n + 1) none faults start now failed
one_more none faults n start now None all = all
one_more none faults n start now (Some k) (low, rose, before) = (omega (arith, low), rose, before)

-- the one after them is what it was
same_next : {V : Type 0} (none : V) (faults : V → ℕ) (IsStill : V → V → Type 0) (n : ℕ) (start now after : List V) (failed : Option ℕ) → after ≡ now → AreSynced none faults IsStill n start now failed → AreSynced none faults IsStill (n + 1) start after failed
same_next none faults IsStill n start now after failed same before =
    subst (λ l. AreSynced none faults IsStill (n + 1) start l failed) (sym same) (record { rest = λ j high. before.rest j (omega (arith, high)); still = before.still; first = one_more none faults n start now failed before.first })

-- the places beside the one that is synced
beside : {V : Type 0} (none : V) (faults : V → ℕ) (IsStill : V → V → Type 0) (n j : ℕ) (now after : List V) (fails : Bool) → IsOne none faults IsStill n now after fails → j ≢ n → slice_index_or after j none ≡ slice_index_or now j none
beside none faults IsStill n j now after fails one apart = ap (λ l. slice_index_or l j none) one.is ∙ get_or-set_other now n j one.new none apart

here : {V : Type 0} (none : V) (faults : V → ℕ) (IsStill : V → V → Type 0) (n : ℕ) (now after : List V) (fails : Bool) (one : IsOne none faults IsStill n now after fails) → slice_index_or after n none ≡ one.new
here none faults IsStill n now after fails one = ap (λ l. slice_index_or l n none) one.is ∙ get_or-set_same now n one.new none one.there

-- one that doesn't fail changes nothing
unchanged : {V : Type 0} (none : V) (faults : V → ℕ) (IsStill : V → V → Type 0) (n : ℕ) (now after : List V) → IsOne none faults IsStill n now after false → after ≡ now
unchanged none faults IsStill n now after one = one.is ∙ ap (λ v. slice_set now n v) (one.same refl) ∙ set-get_or now n none

-- each one is still what it was at the start
all_still : {V : Type 0} (none : V) (faults : V → ℕ) (IsStill : V → V → Type 0) (n : ℕ) (start now after : List V) (failed : Option ℕ) (fails : Bool) → IsOne none faults IsStill n now after fails → AreSynced none faults IsStill n start now failed → (j : ℕ) → IsStill (slice_index_or start j none) (slice_index_or after j none)
all_still none faults IsStill n start now after failed fails one before j = both (j == n)
    (λ e. let same : j ≡ n = eqb-true j n e in
    let new : IsStill (slice_index_or start n none) one.new = subst (λ v. IsStill v one.new) (before.rest n (omega arith)) one.still in
    subst (λ i. IsStill (slice_index_or start i none) (slice_index_or after i none)) (sym same) (subst (IsStill (slice_index_or start n none)) (sym (here none faults IsStill n now after fails one)) new))
    (λ e. let apart : j ≢ n = eqb-false j n e in
    subst (IsStill (slice_index_or start j none)) (sym (beside none faults IsStill n j now after fails one apart)) (before.still j))

-- the first that failed, where this one does
first_of : {V : Type 0} (none : V) (faults : V → ℕ) (IsStill : V → V → Type 0) (n : ℕ) (start now after : List V) (failed : Option ℕ) → IsOne none faults IsStill n now after true → AreSynced none faults IsStill n start now failed → FailedFirst (n + 1) none faults start after (first_fault failed n true)
first_of none faults IsStill n start now after None one before =
    let rose : Rose (faults (slice_index_or start n none)) (faults one.new) = subst (λ v. Rose (faults v) (faults one.new)) (before.rest n (omega arith)) (one.rose refl) in (
      omega arith,
      subst (λ v. Rose (faults (slice_index_or start n none)) (faults v)) (sym (here none faults IsStill n now after true one)) rose,
      λ j low. beside none faults IsStill n j now after true one (λ e. omega (arith, e, low)) ∙ before.first j,
    )
first_of none faults IsStill n start now after (Some k) one before =
    let first = before.first in
    let low : k < n = first.0 in (
      omega (arith, low),
      subst (λ v. Rose (faults (slice_index_or start k none)) (faults v)) (sym (beside none faults IsStill n k now after true one (λ e. omega (arith, e, low)))) first.1,
      λ j less. beside none faults IsStill n j now after true one (λ e. omega (arith, e, less, low)) ∙ first.2 j less,
    )

-- one more is synced
pub next_synced : {V : Type 0} (none : V) (faults : V → ℕ) (IsStill : V → V → Type 0) (n : ℕ) (start now after : List V) (failed : Option ℕ) (fails : Bool) → IsOne none faults IsStill n now after fails → AreSynced none faults IsStill n start now failed → AreSynced none faults IsStill (n + 1) start after (first_fault failed n fails)
next_synced none faults IsStill n start now after failed true one before = record {
  rest = λ j high. beside none faults IsStill n j now after true one (λ e. omega (arith, e, high)) ∙ before.rest j (omega (arith, high));
  still = all_still none faults IsStill n start now after failed true one before;
  first = first_of none faults IsStill n start now after failed one before;
}
next_synced none faults IsStill n start now after None false one before = same_next none faults IsStill n start now after None (unchanged none faults IsStill n now after one) before
next_synced none faults IsStill n start now after (Some k) false one before = same_next none faults IsStill n start now after (Some k) (unchanged none faults IsStill n now after one) before
