-- The text of a half is read to its end.
use Rattle.std.proofs.Common.{◌≡◌, ℕ, ◌+◌, ◌-◌, ◌*◌, ◌<◌, ◌≤◌, ◌/◌, ◌%◌, ◌^◌, ◌==◌, nat_le, nat_lt, Bool, true, false, ◌&&◌, if◌then◌else◌, List, [], ◌∷◌, ◌++◌, codes, decimal, Option, Some, None, option_and_then, refl, sym, ap, ◌∙◌, arith, subst, append_assoc, le-leb, inl, inr}
use Rattle.std.proofs.lemmas.Bool.{lt-ltb, ne_eqb, and_from, or_left, or_right, true≢false, false≢true}
use Rattle.std.proofs.lemmas.Fmt.{decimal_by_steps}
use Rattle.std.proofs.lemmas.Option.{none-some, same_Some}
use Rattle.vv_base.specs.Digits.{is_digit}
use Rattle.vv_class.specs.declared.scan.Next.{Next}
use Rattle.vv_class.specs.declared.scan.Next.TheVariants.{Level, MoreLevel, FirstCategory, Category, MoreCategory, End}
use Rattle.vv_class.specs.declared.scan.Half.{Half}
use Rattle.vv_class.specs.Scan.{Part, start_of, may_be_category, with_level, with_category, closed, more_level, more_category, step_of, part_of}
use Rattle.vv_class.specs.Text.{categories_below, listed, half_text}
use Rattle.vv_class.proofs.Spelled.{category_bounds}
use Rattle.vv_class.proofs.Sets.{Rising, weight, weight_below, rising_below, tail_text, listed-cons}

-- where some bytes lead, if none is refused
abbrev pub runs : Half → List ℕ → Option Half
runs s [] = Some s
runs s (b ∷ bytes) = option_and_then (λ next. runs next bytes) (step_of s b)

onward : (o : Option Half) (xs ys : List ℕ) → ((n : Half) → runs n (xs ++ ys) ≡ option_and_then (λ m. runs m ys) (runs n xs))
    → option_and_then (λ next. runs next (xs ++ ys)) o ≡ option_and_then (λ n. runs n ys) (option_and_then (λ next. runs next xs) o)
onward None xs ys h = refl
onward (Some n) xs ys h = h n

pub runs-append : (s : Half) (xs ys : List ℕ) → runs s (xs ++ ys) ≡ option_and_then (λ n. runs n ys) (runs s xs)
runs-append s [] ys = refl
runs-append s (b ∷ xs) ys = onward (step_of s b) xs ys (λ n. runs-append n xs ys)

-- what is run over one text and then over another
pub runs_on : (s t : Half) (xs ys : List ℕ) → runs s xs ≡ Some t → runs s (xs ++ ys) ≡ runs t ys
runs_on s t xs ys h = runs-append s xs ys ∙ ap (option_and_then (λ (n : Half). runs n ys)) h

if_true : {A : Type 0} (t : Bool) (x y : A) → t ≡ true → (if t then x else y) ≡ x
if_true true x y h = refl
if_true false x y h = absurd (false≢true h)

if_false : {A : Type 0} (t : Bool) (x y : A) → t ≡ false → (if t then x else y) ≡ y
if_false true x y h = absurd (true≢false h)
if_false false x y h = refl

pub digit_is : (d : ℕ) → d < 10 → is_digit (48 + d) ≡ true
digit_is d below = and_from _ _ (le-leb 48 (48 + d) (omega arith)) (le-leb (48 + d) 57 (omega arith))

-- states within a half: before its level, after digits of the level, in the set, after digits of a category
abbrev pub at_level : Half
at_level = record { next = Level; number = 0; least = 0; level = 0; cats = 0 }

abbrev pub after_level : ℕ → Half
after_level n = record { next = MoreLevel; number = n; least = 0; level = 0; cats = 0 }

abbrev pub in_set : Next → ℕ → ℕ → ℕ → Half
in_set next level least cats = record { next = next; number = 0; least = least; level = level; cats = cats }

abbrev pub at_category : ℕ → ℕ → ℕ → ℕ → Half
at_category level least cats k = record { next = MoreCategory; number = k; least = least; level = level; cats = cats }

level_digit : (n : ℕ) → n < 10 → step_of (at_level) (48 + n) ≡ Some (after_level n)
unfolding step_of
level_digit n below =
    let value : 48 + n - 48 ≡ n = omega arith in
    if_true (is_digit (48 + n)) (with_level (at_level) (48 + n - 48)) None (digit_is n below)
    ∙ ap (λ k. with_level (at_level) k) value ∙ if_true (nat_le n 255) (Some (after_level n)) None (le-leb n 255 (omega arith))

level_more : (m d : ℕ) → 1 ≤ m → d < 10 → 10 * m + d < 256 → step_of (after_level m) (48 + d) ≡ Some (after_level (10 * m + d))
unfolding step_of more_level
level_more m d positive below fits =
    let value : 48 + d - 48 ≡ d = omega arith in
    let no_brace : (48 + d == 123) ≡ false = ne_eqb (48 + d) 123 (λ e. omega arith) in
    let t : Half = after_level m in
    if_false (48 + d == 123) (Some (record t { next = FirstCategory; level = m; number = 0 })) _ no_brace
    ∙ if_true (is_digit (48 + d) && nat_le 1 m) (with_level t (10 * m + (48 + d - 48))) None (and_from _ _ (digit_is d below) (le-leb 1 m positive))
    ∙ ap (λ k. with_level t (10 * m + k)) value ∙ if_true (nat_le (10 * m + d) 255) (Some (after_level (10 * m + d))) None (le-leb (10 * m + d) 255 (omega arith))

-- the digits of a level
level_digits : (n : ℕ) → n < 256 → runs (at_level) (decimal n) ≡ Some (after_level n)
level_digits n below = decimal_by_steps (λ n ds. n < 256 → runs (at_level) ds ≡ Some (after_level n))
    (λ n small fits. ap (option_and_then (λ (t : Half). Some t)) (level_digit n small))
    (λ n ds large before fits.
    let whole : 10 * (n / 10) + n % 10 ≡ n = omega arith in
    runs_on (at_level) (after_level (n / 10)) ds ((48 + n % 10) ∷ []) (before (omega arith))
    ∙ ap (option_and_then (λ (t : Half). Some t)) (level_more (n / 10) (n % 10) (omega arith) (omega arith) (omega arith))
    ∙ ap (λ k. Some (after_level k)) whole)
    n (omega arith) below

level_brace : (n : ℕ) → step_of (after_level n) 123 ≡ Some (in_set FirstCategory n 0 0)
unfolding step_of more_level
level_brace n = refl

-- the digits of a category, first or not
data CanStart (next : Next) : Type 0 where
  first : next ≡ FirstCategory → CanStart next
  later : next ≡ Category → CanStart next

may : (least n : ℕ) → least ≤ n → n < 64 → may_be_category least n ≡ true
may least n at below = or_left _ _ (and_from _ _ (le-leb least n at) (le-leb n 63 (omega arith)))

may_grow : (least n : ℕ) → 10 ≤ n → may_be_category least n ≡ true → may_be_category least (n / 10) ≡ true
may_grow least n large h =
    elim (category_bounds least n h) [
      | inl is ↦
          or_right _ _ (and_from _ _ (and_from _ _ (and_from _ _ (le-leb 1 (n / 10) (omega arith)) (le-leb (n / 10) 6 (omega (arith, is.1)))) (le-leb least (10 * (n / 10) + 9) (omega (arith, is.0)))) (le-leb least 63 (omega (arith, is.0, is.1))))
      | inr small ↦ absurd (omega (arith, small.1))
    ]

category_digit : (next : Next) (level least cats n : ℕ) → CanStart next → n < 10 → may_be_category least n ≡ true
    → step_of (in_set next level least cats) (48 + n) ≡ Some (at_category level least cats n)
unfolding step_of
category_digit next level least cats n can below is =
    let P : Next → Type 0 = λ x. step_of (in_set x level least cats) (48 + n) ≡ Some (at_category level least cats n) in
    let value : 48 + n - 48 ≡ n = omega arith in
    let no_brace : (48 + n == 125) ≡ false = ne_eqb (48 + n) 125 (λ e. omega arith) in
    let digit = λ (t : Half). if_true (is_digit (48 + n)) (with_category t (48 + n - 48)) None (digit_is n below) ∙ ap (λ k. with_category t k) value in
    let end = λ (t : Half). if_true (may_be_category least n) (Some (record t { next = MoreCategory; number = n })) None is in
    elim can [
      | first e ↦ (let t : Half = in_set FirstCategory level least cats in subst P (sym e) (if_false (48 + n == 125) (Some (closed t)) _ no_brace ∙ digit t ∙ end t))
      | later e ↦ (let t : Half = in_set Category level least cats in subst P (sym e) (digit t ∙ end t))
    ]

category_more : (level least cats m d : ℕ) → 1 ≤ m → d < 10 → may_be_category least (10 * m + d) ≡ true
    → step_of (at_category level least cats m) (48 + d) ≡ Some (at_category level least cats (10 * m + d))
unfolding step_of more_category
category_more level least cats m d positive below is =
    let value : 48 + d - 48 ≡ d = omega arith in
    let t : Half = at_category level least cats m in
    let no_brace : (48 + d == 125) ≡ false = ne_eqb (48 + d) 125 (λ e. omega arith) in
    let no_comma : (48 + d == 44) ≡ false = ne_eqb (48 + d) 44 (λ e. omega arith) in
    if_false (48 + d == 125) _ _ no_brace ∙ if_false (48 + d == 44) _ _ no_comma
    ∙ if_true (is_digit (48 + d) && nat_le 1 m) (with_category t (10 * m + (48 + d - 48))) None (and_from _ _ (digit_is d below) (le-leb 1 m positive))
    ∙ ap (λ k. with_category t (10 * m + k)) value ∙ if_true (may_be_category least (10 * m + d)) (Some (at_category level least cats (10 * m + d))) None is

category_digits : (next : Next) (level least cats k : ℕ) → CanStart next → least ≤ k → k < 64
    → runs (in_set next level least cats) (decimal k) ≡ Some (at_category level least cats k)
category_digits next level least cats k can at below = decimal_by_steps (λ n ds. may_be_category least n ≡ true → runs (in_set next level least cats) ds ≡ Some (at_category level least cats n))
    (λ n small is. ap (option_and_then (λ (t : Half). Some t)) (category_digit next level least cats n can small is))
    (λ n ds large before is.
    let whole : 10 * (n / 10) + n % 10 ≡ n = omega arith in
    runs_on (in_set next level least cats) (at_category level least cats (n / 10)) ds ((48 + n % 10) ∷ []) (before (may_grow least n large is))
    ∙ ap (option_and_then (λ (t : Half). Some t)) (category_more level least cats (n / 10) (n % 10) (omega arith) (omega arith) (subst (λ m. may_be_category least m ≡ true) (sym whole) is))
    ∙ ap (λ m. Some (at_category level least cats m)) whole)
    k (omega arith) (may least k at below)

comma_law : (level least cats k : ℕ) → least ≤ k → k < 63 → step_of (at_category level least cats k) 44 ≡ Some (in_set Category level (k + 1) (cats + 2 ^ k))
unfolding step_of more_category
comma_law level least cats k at below = if_true (nat_le least k && nat_lt k 63) _ _ (and_from _ _ (le-leb least k at) (lt-ltb k 63 below))

brace_law : (level least cats k : ℕ) → least ≤ k → k < 64 → step_of (at_category level least cats k) 125 ≡ Some (closed (in_set Category level (k + 1) (cats + 2 ^ k)))
unfolding step_of more_category
brace_law level least cats k at below = if_true (nat_le least k && nat_le k 63) _ _ (and_from _ _ (le-leb least k at) (le-leb k 63 (omega arith)))

empty_law : (level : ℕ) → step_of (in_set FirstCategory level 0 0) 125 ≡ Some (closed (in_set Category level 0 0))
unfolding step_of
empty_law level = refl

-- a text leads to a closed set
abbrev Closes : Half → List ℕ → ℕ → ℕ → Type 0
Closes from text level total = (last : ℕ) × (runs from (text ++ codes "}") ≡ Some (closed (in_set Category level last total)))

later_set : (ks : List ℕ) (level least cats k : ℕ) → least ≤ k → k < 64 → Rising (k + 1) ks → Closes (at_category level least cats k) (tail_text ks) level (cats + 2 ^ k + weight ks)
later_set [] level least cats k at below rising =
    let all : cats + 2 ^ k ≡ cats + 2 ^ k + 0 = omega arith in
    (k + 1, ap (option_and_then (λ (t : Half). Some t)) (brace_law level least cats k at below) ∙ ap (λ n. Some (closed (in_set Category level (k + 1) n))) all)
later_set (j ∷ ks) level least cats k at below rising =
    let next = later_set ks level (k + 1) (cats + 2 ^ k) j rising.0 rising.1 rising.2 in
    let all : cats + 2 ^ k + 2 ^ j + weight ks ≡ cats + 2 ^ k + (2 ^ j + weight ks) = omega arith in (
      next.0,
      ap (option_and_then (λ (t : Half). runs t ((decimal j ++ tail_text ks) ++ codes "}"))) (comma_law level least cats k at (omega (arith, rising.0, rising.1)))
          ∙ ap (runs (in_set Category level (k + 1) (cats + 2 ^ k))) (append_assoc (decimal j) (tail_text ks) (codes "}"))
          ∙ runs_on (in_set Category level (k + 1) (cats + 2 ^ k)) (at_category level (k + 1) (cats + 2 ^ k) j) (decimal j) (tail_text ks ++ codes "}") (category_digits Category level (k + 1) (cats + 2 ^ k) j (later refl) rising.0 rising.1)
          ∙ next.1 ∙ ap (λ n. Some (closed (in_set Category level next.0 n))) all,
    )

whole_set : (ks : List ℕ) (level : ℕ) → Rising 0 ks → Closes (in_set FirstCategory level 0 0) (listed ks) level (weight ks)
whole_set [] level rising = (0, ap (option_and_then (λ (t : Half). Some t)) (empty_law level))
whole_set (k ∷ ks) level rising =
    let next = later_set ks level 0 0 k (omega arith) rising.1 rising.2 in
    let all : 0 + 2 ^ k + weight ks ≡ 2 ^ k + weight ks = omega arith in (
      next.0,
      ap (λ (xs : List ℕ). runs (in_set FirstCategory level 0 0) (xs ++ codes "}")) (listed-cons k ks)
          ∙ ap (runs (in_set FirstCategory level 0 0)) (append_assoc (decimal k) (tail_text ks) (codes "}"))
          ∙ runs_on (in_set FirstCategory level 0 0) (at_category level 0 0 k) (decimal k) (tail_text ks ++ codes "}") (category_digits FirstCategory level 0 0 k (first refl) (omega arith) rising.1)
          ∙ next.1 ∙ ap (λ n. Some (closed (in_set Category level next.0 n))) all,
    )

-- the state after a half
abbrev pub end_of : ℕ → ℕ → ℕ → Half
end_of level last cats = record { next = End; number = 0; least = last; level = level; cats = cats }

start_law : at_level ≡ start_of
unfolding start_of
start_law = refl

-- the text of a half is read to its end
pub half_runs : (level m : ℕ) → level < 256 → m < 2 ^ 64 → (last : ℕ) × (runs start_of (half_text level m) ≡ Some (end_of level last m))
half_runs level m low below =
    let ks : List ℕ = categories_below 64 m in
    let set = whole_set ks level (rising_below m) in
    let total : weight ks ≡ m = weight_below 64 m ∙ omega (arith, below) in
    let opened : runs at_level (decimal level ++ codes "{") ≡ Some (in_set FirstCategory level 0 0) =
    runs_on at_level (after_level level) (decimal level) (codes "{") (level_digits level low) ∙ ap (option_and_then (λ (t : Half). Some t)) (level_brace level) in (
      set.0,
      ap (λ (t : Half). runs t (half_text level m)) (sym start_law) ∙ ap (runs at_level) (append_assoc (decimal level ++ codes "{") (listed ks) (codes "}"))
          ∙ runs_on at_level (in_set FirstCategory level 0 0) (decimal level ++ codes "{") (listed ks ++ codes "}") opened
          ∙ set.1 ∙ ap (λ n. Some (closed (in_set Category level set.0 n))) total,
    )

-- no byte of the rest goes on with a half
abbrev pub Stuck : Half → List ℕ → Type 0
Stuck s [] = Unit {0}
Stuck s (b ∷ bytes) = step_of s b ≡ None

pub ends : (level last cats : ℕ) (bytes : List ℕ) → Stuck (end_of level last cats) bytes
unfolding step_of
ends level last cats [] = tt
ends level last cats (b ∷ bytes) = refl

abbrev pub part_on : Half → ℕ → List ℕ → Option Half → Part
part_on s b bytes o = elim o [ None ↦ record { half = s; rest = b ∷ bytes } | Some next ↦ part_of next bytes ]

abbrev pub read_to : Half → List ℕ → Part
read_to s rest = record { half = s; rest = rest }

stops_on : (o : Option Half) (s e : Half) (b : ℕ) (xs ys : List ℕ) → option_and_then (λ n. runs n xs) o ≡ Some e
    → ((n : Half) → runs n xs ≡ Some e → part_of n (xs ++ ys) ≡ read_to e ys) → part_on s b (xs ++ ys) o ≡ read_to e ys
stops_on None s e b xs ys h more = absurd (none-some e h)
stops_on (Some n) s e b xs ys h more = more n h

-- a half is read up to where it is stuck
pub stops_at : (xs ys : List ℕ) (s e : Half) → runs s xs ≡ Some e → Stuck e ys → part_of s (xs ++ ys) ≡ read_to e ys
stops_at [] [] s e h stuck = ap (λ (t : Half). part_of t []) (same_Some s e h)
stops_at [] (y ∷ ys) s e h stuck = ap (λ (t : Half). part_of t (y ∷ ys)) (same_Some s e h) ∙ ap (part_on e y ys) stuck
stops_at (x ∷ xs) ys s e h stuck = stops_on (step_of s x) s e x xs ys h (λ n more. stops_at xs ys n e more stuck)
