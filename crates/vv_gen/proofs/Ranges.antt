-- Lists that a loop makes, one element more at a time, and what holds of each number below a bound.
use Rattle.std.proofs.Common.{◌≡◌, ℕ, Bool, true, ◌+◌, ◌<◌, List, [], ◌∷◌, ◌++◌, map, length, get_or, All, refl, ◌∙◌, sym, ap, subst, arith}
use Rattle.std.specs.List.{list_all, range_with_len}
use Rattle.std.proofs.lemmas.List.{map-append}
use Rattle.std.proofs.lemmas.List.FromFn.{map-range_with_len_more, get_or-range_with_len, length-range_with_len}
use Rattle.std.proofs.lemmas.List.Sums.{AllPass-from_list_all}
use Rattle.vv_gen.specs.Config.{all_guests}

pub one_more : {X : Type 0} (f : ℕ → X) (n : ℕ) → map f (range_with_len 0 n) ++ f n ∷ [] ≡ map f (range_with_len 0 (n + 1))
one_more f n = sym (map-range_with_len_more f 0 n n (omega arith))

pub eight_guests : (n : ℕ) → n ≡ 8 → range_with_len 0 n ≡ all_guests
unfolding all_guests
eight_guests n e = ap (range_with_len 0) e

at : (n k : ℕ) (d : ℕ) → k < n → get_or (range_with_len 0 n) k d ≡ k
at n k d below = let same : 0 + k ≡ k = omega arith in get_or-range_with_len 0 n k d below ∙ same

pub each_below : (P : ℕ → Type 0) (n : ℕ) → ((k : ℕ) → k < n → P k) → All P (range_with_len 0 n)
each_below P n holds k d within =
    let below : k < n = omega (arith, within, length-range_with_len 0 n) in
    subst P (sym (at n k d below)) (holds k below)

-- a test that each number below a bound passes
pub passed : (p : ℕ → Bool) (n : ℕ) → list_all p (range_with_len 0 n) ≡ true → (k : ℕ) → k < n → p k ≡ true
passed p n e k below =
    let within : k < length (range_with_len 0 n) = omega (arith, length-range_with_len 0 n) in
    subst (λ (i : ℕ). p i ≡ true) (at n k 0 below) (AllPass-from_list_all p (range_with_len 0 n) e k 0 within)

-- one turn of a loop that pushes
pub pushed : {X : Type 0} (f : ℕ → X) (n : ℕ) (before after : List X) (x : X) → before ≡ map f (range_with_len 0 n) → after ≡ before ++ x ∷ [] → x ≡ f n → after ≡ map f (range_with_len 0 (n + 1))
pushed {X} f n before after x made push same =
    let on : List X → List X = λ l. l ++ x ∷ [] in
    let with : X → List X = λ y. map f (range_with_len 0 n) ++ y ∷ [] in
    push ∙ ap on made ∙ ap with same ∙ one_more f n

-- the same after a first element
pub pushed_after : {X : Type 0} (first : X) (f : ℕ → X) (n : ℕ) (before after : List X) (x : X) → before ≡ first ∷ map f (range_with_len 0 n) → after ≡ before ++ x ∷ [] → x ≡ f n
    → after ≡ first ∷ map f (range_with_len 0 (n + 1))
pushed_after {X} first f n before after x made push same =
    let on : List X → List X = λ l. l ++ x ∷ [] in
    let later : List X → List X = λ l. first ∷ l in
    push ∙ ap on made ∙ ap later (pushed f n (map f (range_with_len 0 n)) (map f (range_with_len 0 n) ++ x ∷ []) x refl refl same)

-- the same of lists that are seen by parts
pub pushed_seen : {X Y : Type 0} (seen : Y → X) (f : ℕ → X) (n : ℕ) (before after : List Y) (y : Y) → map seen before ≡ map f (range_with_len 0 n) → after ≡ before ++ y ∷ [] → seen y ≡ f n
    → map seen after ≡ map f (range_with_len 0 (n + 1))
pushed_seen seen f n before after y made push same =
    pushed f n (map seen before) (map seen after) (seen y) made (ap (map seen) push ∙ map-append seen before (y ∷ [])) same
