-- The place of a row among those that are kept is the count of what is kept before it.
use Rattle.std.proofs.Common.{◌≡◌, ℕ, zero, suc, List, [], ◌∷◌, length, filter, Bool, true, false, refl, ap, take, min, if◌then◌else◌}
use Rattle.std.proofs.lemmas.List.{take_min}
use Rattle.sys_purge.specs.Purge.{rank}

one_more : {A : Type 0} (b : Bool) (x : A) (ys : List A) (n : ℕ) → n ≡ length ys → (if b then suc n else n) ≡ length (if b then x ∷ ys else ys)
one_more true x ys n same = ap suc same
one_more false x ys n same = same

pub rank_counts : {A : Type 0} (test : A → Bool) (xs : List A) (k : ℕ) → rank test xs k ≡ length (filter test (take k xs))
rank_counts test [] zero = refl
rank_counts test [] (suc k) = refl
rank_counts test (x ∷ xs) zero = refl
rank_counts test (x ∷ xs) (suc k) = one_more (test x) x (filter test (take k xs)) (rank test xs k) (rank_counts test xs k)

pub rank_is : {A : Type 0} (test : A → Bool) (xs : List A) (k place before n : ℕ) → n ≡ length (filter test (take before xs)) → before ≡ min place (length xs) → place ≡ k → n ≡ rank test xs k
rank_is test xs k place before n counted cut same =
    rw (rank_counts test xs k, counted, cut, same, take_min k xs) refl
