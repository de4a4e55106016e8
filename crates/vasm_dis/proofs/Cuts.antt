-- Texts without certain characters, and where they are cut.
use Rattle.std.specs.List.{list_all}
use Rattle.std.proofs.Common.{◌≡◌, ◌==◌, ℕ, Bool, true, false, ◌&&◌, List, [], ◌∷◌, ◌++◌, Some, None, refl, ap, ◌∙◌}
use Rattle.std.proofs.lemmas.List.Folds.{list_all-append}
use Rattle.vax_table.proofs.Tests.{eq_of}
use Rattle.vasm_text.specs.Cutting.{cut, is_blank, without_front, unless_blank, without_back}

-- no byte passes a test
abbrev pub NonePass : (ℕ → Bool) → List ℕ → Type 0
NonePass test [] = Unit {0}
NonePass test (b ∷ bs) = (test b ≡ false) × NonePass test bs

pub none_join : (test : ℕ → Bool) (xs ys : List ℕ) → NonePass test xs → NonePass test ys → NonePass test (xs ++ ys)
none_join test [] ys first second = second
none_join test (x ∷ xs) ys first second = (first.0, none_join test xs ys first.1 second)

pub cut_none : (test : ℕ → Bool) (xs : List ℕ) → NonePass test xs → cut test xs ≡ None
cut_none test [] none = refl
cut_none test (x ∷ xs) none = rw (none.0, cut_none test xs none.1)

pub cut_here : (test : ℕ → Bool) (xs : List ℕ) (c : ℕ) (ys : List ℕ) → NonePass test xs → test c ≡ true → cut test (xs ++ c ∷ ys) ≡ Some (record { before = xs; later = ys })
cut_here test [] c ys none here = rw here
cut_here test (x ∷ xs) c ys none here = rw (none.0, cut_here test xs c ys none.1 here)

-- all bytes pass
pub all_join : (test : ℕ → Bool) (xs ys : List ℕ) → list_all test xs ≡ true → list_all test ys ≡ true → list_all test (xs ++ ys) ≡ true
all_join test xs ys first second = list_all-append test xs ys ∙ ap (λ b. b && list_all test ys) first ∙ second

both : (a b : Bool) → (a && b) ≡ true → (a ≡ true) × (b ≡ true)
both true b is = (refl, is)
both false b is = (cc, cc)

pub all_wider : (narrow wide : ℕ → Bool) → ((b : ℕ) → narrow b ≡ true → wide b ≡ true) → (xs : List ℕ) → list_all narrow xs ≡ true → list_all wide xs ≡ true
all_wider narrow wide more [] all = refl
all_wider narrow wide more (x ∷ xs) all =
    let parts : (narrow x ≡ true) × (list_all narrow xs ≡ true) = both (narrow x) (list_all narrow xs) all in
    rw (more x parts.0, all_wider narrow wide more xs parts.1)

-- a character of no class of a text isn't in it
other_by : (class : ℕ → Bool) (b c : ℕ) (t : Bool) → (b == c) ≡ t → class c ≡ false → class b ≡ true → t ≡ false
other_by class b c true is out within = let same : b ≡ c = eq_of b c is in let there : class b ≡ class c = ap class same in cc
other_by class b c false is out within = refl

pub other : (class : ℕ → Bool) (b c : ℕ) → class c ≡ false → class b ≡ true → (b == c) ≡ false
other class b c out within = other_by class b c (b == c) refl out within

pub free_of : (class : ℕ → Bool) (c : ℕ) → class c ≡ false → (xs : List ℕ) → list_all class xs ≡ true → NonePass (λ b. b == c) xs
free_of class c out [] all = tt
free_of class c out (x ∷ xs) all =
    let parts : (class x ≡ true) × (list_all class xs ≡ true) = both (class x) (list_all class xs) all in
    (other class x c out parts.0, free_of class c out xs parts.1)

pub no_blanks : (class : ℕ → Bool) → class 32 ≡ false → class 9 ≡ false → (xs : List ℕ) → list_all class xs ≡ true → NonePass is_blank xs
no_blanks class space tab [] all = tt
no_blanks class space tab (x ∷ xs) all =
    let parts : (class x ≡ true) × (list_all class xs ≡ true) = both (class x) (list_all class xs) all in
    (rw (other class x 32 space parts.0, other class x 9 tab parts.0), no_blanks class space tab xs parts.1)

-- ---- blanks at the back

pub back_kept : (xs : List ℕ) → NonePass is_blank xs → without_back xs ≡ xs
back_kept [] none = refl
back_kept (x ∷ []) none = rw none.0
back_kept (x ∷ y ∷ xs) none = let e : without_back (y ∷ xs) ≡ y ∷ xs = back_kept (y ∷ xs) none.1 in ap (unless_blank x) e

pub back_join : (xs : List ℕ) (c : ℕ) (ys : List ℕ) → without_back (c ∷ ys) ≡ c ∷ ys → without_back (xs ++ c ∷ ys) ≡ xs ++ c ∷ ys
back_join [] c ys is = is
back_join (x ∷ []) c ys is = ap (unless_blank x) is
back_join (x ∷ y ∷ xs) c ys is = let e : without_back (y ∷ xs ++ c ∷ ys) ≡ y ∷ xs ++ c ∷ ys = back_join (y ∷ xs) c ys is in ap (unless_blank x) e

pub front_kept : (x : ℕ) (xs : List ℕ) → is_blank x ≡ false → without_front (x ∷ xs) ≡ x ∷ xs
front_kept x xs none = rw none
