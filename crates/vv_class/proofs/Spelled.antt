-- What was read when a state is reached, and how a half goes on from there.
use Rattle.std.proofs.Common.{◌≡◌, ℕ, ◌+◌, ◌-◌, ◌*◌, ◌<◌, ◌≤◌, ◌/◌, ◌%◌, ◌^◌, ◌==◌, nat_le, nat_lt, min, true, ◌&&◌, if◌then◌else◌, List, [], ◌∷◌, ◌++◌, codes, decimal, Option, Some, None, refl, sym, ap, ◌∙◌, arith, append_assoc, append-nil, add-one, ◌⊎◌, inl, inr}
use Rattle.std.proofs.Math.Nat.{pow-suc}
use Rattle.std.proofs.Math.Pow.{pow_mono}
use Rattle.std.proofs.lemmas.Bool.{and_parts, or_cases, leb-true, ltb-true, eqb-true, cond_both, false≢true}
use Rattle.std.proofs.lemmas.Fmt.{decimal_digit, decimal_step}
use Rattle.std.proofs.lemmas.Nat.{pow_pos}
use Rattle.vv_base.specs.Digits.{is_digit}
use Rattle.vv_class.specs.declared.scan.Next.{Next}
use Rattle.vv_class.specs.declared.scan.Next.TheVariants.{Level, MoreLevel, FirstCategory, Category, MoreCategory, End}
use Rattle.vv_class.specs.declared.scan.Half.{Half}
use Rattle.vv_class.specs.Scan.{start_of, is_whole, may_be_category, with_level, with_category, kept, closed, more_level, more_category, step_of}
use Rattle.vv_class.specs.Text.{categories_below, listed, half_text}
use Rattle.vv_class.proofs.Sets.{lead, listed-push, lead-push, with_one, none_below}

-- a number that is a category from the least one on, or becomes one by a further digit
pub category_bounds : (least n : ℕ) → may_be_category least n ≡ true → ((least ≤ n) × (n ≤ 63)) ⊎ ((1 ≤ n) × (n ≤ 6) × (least ≤ 10 * n + 9) × (least ≤ 63))
category_bounds least n h =
    elim (or_cases (nat_le least n && nat_le n 63) (nat_le 1 n && nat_le n 6 && nat_le least (10 * n + 9) && nat_le least 63) h) [
      | inl is ↦
          let both = and_parts (nat_le least n) (nat_le n 63) is in
          inl (leb-true least n both.0, leb-true n 63 both.1)
      | inr small ↦
          let three = and_parts (nat_le 1 n && nat_le n 6 && nat_le least (10 * n + 9)) (nat_le least 63) small in
          let two = and_parts (nat_le 1 n && nat_le n 6) (nat_le least (10 * n + 9)) three.0 in
          let one = and_parts (nat_le 1 n) (nat_le n 6) two.0 in
          inr (leb-true 1 n one.0, leb-true n 6 one.1, leb-true least (10 * n + 9) two.1, leb-true least 63 three.1)
    ]

few_digits : (least n : ℕ) → may_be_category least n ≡ true → n < 1000
few_digits least n h = elim (category_bounds least n h) [ inl is ↦ omega (arith, is.1) | inr small ↦ omega (arith, small.1) ]

-- a half up to where a category may follow
abbrev pub opened : ℕ → ℕ → List ℕ
opened level cats = decimal level ++ codes "{" ++ lead (categories_below 64 cats)

abbrev pub written_at : Next → Half → List ℕ
written_at Level s = []
written_at MoreLevel s = decimal s.number
written_at FirstCategory s = opened s.level s.cats
written_at Category s = opened s.level s.cats
written_at MoreCategory s = opened s.level s.cats ++ decimal s.number
written_at End s = half_text s.level s.cats

-- the bytes that lead to a state
abbrev pub written : Half → List ℕ
written s = written_at s.next s

abbrev pub FitsAt : Next → Half → Type 0
FitsAt Level s = (s.cats ≡ 0) × (s.least ≡ 0)
FitsAt MoreLevel s = (s.number < 256) × (s.cats ≡ 0) × (s.least ≡ 0)
FitsAt FirstCategory s = (s.level < 256) × (s.cats ≡ 0) × (s.least ≡ 0)
FitsAt Category s = (s.level < 256) × (s.cats < 2 ^ s.least) × (s.least < 64)
FitsAt MoreCategory s = (s.level < 256) × (s.cats < 2 ^ s.least) × (may_be_category s.least s.number ≡ true)
FitsAt End s = (s.level < 256) × (s.cats < 2 ^ 64)

-- what holds of each state that is reached
abbrev pub Fits : Half → Type 0
Fits s = FitsAt s.next s

-- a byte is refused, or leads to a state that has it after what was read
abbrev pub Good : List ℕ → ℕ → Option Half → Type 0
Good before b None = Unit {0}
Good before b (Some n) = Fits n × (written n ≡ before ++ b ∷ [])

digit_bounds : (b : ℕ) → is_digit b ≡ true → (48 ≤ b) × (b ≤ 57)
digit_bounds b e = let both = and_parts _ _ e in (leb-true 48 b both.0, leb-true b 57 both.1)

first_digit : (b : ℕ) → 48 ≤ b → b ≤ 57 → decimal (b - 48) ≡ b ∷ []
first_digit b low high = let same : 48 + (b - 48) ≡ b = omega arith in decimal_digit (b - 48) (omega arith) ∙ ap (λ c. c ∷ []) same

more_digit : (m b : ℕ) → 1 ≤ m → m < 1000 → 48 ≤ b → b ≤ 57 → decimal (10 * m + (b - 48)) ≡ decimal m ++ b ∷ []
more_digit m b positive small low high =
    let front : (10 * m + (b - 48)) / 10 ≡ m = omega arith in
    let last : 48 + (10 * m + (b - 48)) % 10 ≡ b = omega arith in
    decimal_step (10 * m + (b - 48)) (omega arith) (omega arith) ∙ (λ i. decimal (front i) ++ last i ∷ [])

level_good : (s : Half) (before : List ℕ) (n b : ℕ) → s.cats ≡ 0 → s.least ≡ 0 → decimal n ≡ before ++ b ∷ [] → Good before b (with_level s n)
level_good s before n b none least e =
    cond_both (nat_le n 255) (Some (record s { next = MoreLevel; number = n })) None (Good before b)
    (λ is. ((let le : n ≤ 255 = leb-true n 255 is in omega arith, none, least), e)) (λ is. tt)

category_good : (s : Half) (before : List ℕ) (n b : ℕ) → s.level < 256 → s.cats < 2 ^ s.least → opened s.level s.cats ++ decimal n ≡ before ++ b ∷ [] → Good before b (with_category s n)
category_good s before n b level room e =
    cond_both (may_be_category s.least n) (Some (record s { next = MoreCategory; number = n })) None (Good before b)
    (λ is. ((level, room, is), e)) (λ is. tt)

closed_good : (s : Half) (before : List ℕ) (b : ℕ) → b ≡ 125 → s.level < 256 → s.cats < 2 ^ 64 → decimal s.level ++ codes "{" ++ listed (categories_below 64 s.cats) ≡ before → Good before b (Some (closed s))
closed_good s before b is level cats e = ((level, cats), ap (λ (xs : List ℕ). xs ++ codes "}") e ∙ ap (λ c. before ++ c ∷ []) (sym is))

-- a set with a category more
room_for : (cats least k : ℕ) → cats < 2 ^ least → least ≤ k → cats + 2 ^ k < 2 ^ (k + 1)
room_for cats least k below at =
    let wide : 2 ^ least ≤ 2 ^ k = pow_mono at in
    let up : 2 ^ (k + 1) ≡ 2 ^ k * 2 = ap (λ n. 2 ^ n) (add-one k) ∙ pow-suc 2 k in
    omega arith

room_in_all : (cats least k : ℕ) → cats < 2 ^ least → least ≤ k → k < 64 → cats + 2 ^ k < 2 ^ 64
room_in_all cats least k below at to =
    let fits : cats + 2 ^ k < 2 ^ (k + 1) = room_for cats least k below at in
    let le : k + 1 ≤ 64 = omega arith in
    let wide : 2 ^ (k + 1) ≤ 2 ^ 64 = pow_mono le in
    omega (arith, fits, wide)

listed_one : (level cats least k : ℕ) → cats < 2 ^ least → least ≤ k → k < 64
    → decimal level ++ codes "{" ++ listed (categories_below 64 (cats + 2 ^ k)) ≡ opened level cats ++ decimal k
listed_one level cats least k below at to =
    let ks : List ℕ = categories_below 64 cats in
    ap (λ (xs : List ℕ). decimal level ++ codes "{" ++ listed xs) (with_one cats least k below at to)
    ∙ ap (λ (xs : List ℕ). decimal level ++ codes "{" ++ xs) (listed-push ks k) ∙ sym (append_assoc (decimal level ++ codes "{") (lead ks) (decimal k))

lead_one : (level cats least k : ℕ) → cats < 2 ^ least → least ≤ k → k < 64 → opened level (cats + 2 ^ k) ≡ (opened level cats ++ decimal k) ++ codes ","
lead_one level cats least k below at to =
    let ks : List ℕ = categories_below 64 cats in
    ap (λ (xs : List ℕ). decimal level ++ codes "{" ++ lead xs) (with_one cats least k below at to)
    ∙ ap (λ (xs : List ℕ). decimal level ++ codes "{" ++ xs) (lead-push ks k) ∙ sym (append_assoc (decimal level ++ codes "{") (lead ks) (decimal k ++ codes ","))
    ∙ sym (append_assoc (opened level cats) (decimal k) (codes ","))

-- a set with no category
no_lead : (cats : ℕ) → cats ≡ 0 → lead (categories_below 64 cats) ≡ []
no_lead cats none = ap (λ n. lead (categories_below 64 n)) none ∙ ap lead none_below

none_listed : (cats : ℕ) → cats ≡ 0 → listed (categories_below 64 cats) ≡ lead (categories_below 64 cats)
none_listed cats none = ap (λ n. listed (categories_below 64 n)) none ∙ ap listed none_below ∙ sym (no_lead cats none)

digit_good : (s : Half) (b : ℕ) → s.level < 256 → s.cats < 2 ^ s.least → Good (opened s.level s.cats) b (if is_digit b then with_category s (b - 48) else None)
digit_good s b level room =
    cond_both (is_digit b) (with_category s (b - 48)) None (Good (opened s.level s.cats) b)
    (λ is. let bounds = digit_bounds b is in
    category_good s (opened s.level s.cats) (b - 48) b level room (ap (λ (xs : List ℕ). opened s.level s.cats ++ xs) (first_digit b bounds.0 bounds.1)))
    (λ is. tt)

-- each step
step_at : (x : Next) (s : Half) (b : ℕ) → Fits (record s { next = x }) → Good (written (record s { next = x })) b (step_of (record s { next = x }) b)
unfolding step_of more_level more_category
step_at Level s b fits =
    let t : Half = record s { next = Level } in
    cond_both (is_digit b) (with_level t (b - 48)) None (Good [] b)
    (λ is. let bounds = digit_bounds b is in level_good t [] (b - 48) b fits.0 fits.1 (first_digit b bounds.0 bounds.1))
    (λ is. tt)
step_at MoreLevel s b fits =
    let t : Half = record s { next = MoreLevel } in
    let before : List ℕ = decimal s.number in
    cond_both (b == 123) (Some (record t { next = FirstCategory; level = t.number; number = 0 })) (if is_digit b && nat_le 1 t.number then with_level t (10 * t.number + (b - 48)) else None) (Good before b)
    (λ is. (
      (fits.0, fits.1, fits.2),
      ap (λ (xs : List ℕ). decimal s.number ++ codes "{" ++ xs) (no_lead s.cats fits.1) ∙ append-nil (decimal s.number ++ codes "{") ∙ ap (λ c. before ++ c ∷ []) (sym (eqb-true b 123 is)),
    ))
    (λ other. cond_both (is_digit b && nat_le 1 t.number) (with_level t (10 * t.number + (b - 48))) None (Good before b)
    (λ is.
    let both = and_parts _ _ is in
    let bounds = digit_bounds b both.0 in
    level_good t before (10 * s.number + (b - 48)) b fits.1 fits.2 (more_digit s.number b (leb-true 1 s.number both.1) (omega (arith, fits.0)) bounds.0 bounds.1))
    (λ is. tt))
step_at FirstCategory s b fits =
    let t : Half = record s { next = FirstCategory } in
    cond_both (b == 125) (Some (closed t)) (if is_digit b then with_category t (b - 48) else None) (Good (opened s.level s.cats) b)
    (λ is. closed_good t (opened s.level s.cats) b (eqb-true b 125 is) fits.0 (omega (arith, fits.1)) (ap (λ (xs : List ℕ). decimal s.level ++ codes "{" ++ xs) (none_listed s.cats fits.1)))
    (λ other. digit_good t b fits.0 (omega (arith, fits.1, pow_pos s.least)))
step_at Category s b fits = digit_good (record s { next = Category }) b fits.0 fits.1
step_at MoreCategory s b fits =
    let t : Half = record s { next = MoreCategory } in
    let before : List ℕ = opened s.level s.cats ++ decimal s.number in
    cond_both (b == 125) _ _ (Good before b)
    (λ is. cond_both (nat_le s.least s.number && nat_le s.number 63) (Some (closed (kept t))) None (Good before b)
    (λ in_range.
    let both = and_parts _ _ in_range in
    let at : s.least ≤ s.number = leb-true s.least s.number both.0 in
    let le : s.number ≤ 63 = leb-true s.number 63 both.1 in
    closed_good (kept t) before b (eqb-true b 125 is) fits.0 (room_in_all s.cats s.least s.number fits.1 at (omega arith)) (listed_one s.level s.cats s.least s.number fits.1 at (omega arith)))
    (λ out. tt))
    (λ no_brace. cond_both (b == 44) _ _ (Good before b)
    (λ is. cond_both (nat_le s.least s.number && nat_lt s.number 63) (Some (kept t)) None (Good before b)
    (λ in_range.
    let both = and_parts _ _ in_range in
    let at : s.least ≤ s.number = leb-true s.least s.number both.0 in
    let lt : s.number < 63 = ltb-true s.number 63 both.1 in (
      (fits.0, room_for s.cats s.least s.number fits.1 at, omega arith),
      lead_one s.level s.cats s.least s.number fits.1 at (omega arith) ∙ ap (λ c. before ++ c ∷ []) (sym (eqb-true b 44 is)),
    ))
    (λ out. tt))
    (λ no_comma. cond_both (is_digit b && nat_le 1 s.number) (with_category t (10 * s.number + (b - 48))) None (Good before b)
    (λ is.
    let both = and_parts _ _ is in
    let bounds = digit_bounds b both.0 in
    let few : s.number < 1000 = few_digits s.least s.number fits.2 in
    category_good t before (10 * s.number + (b - 48)) b fits.0 fits.1
    (ap (λ (xs : List ℕ). opened s.level s.cats ++ xs) (more_digit s.number b (leb-true 1 s.number both.1) few bounds.0 bounds.1) ∙ sym (append_assoc (opened s.level s.cats) (decimal s.number) (b ∷ []))))
    (λ is. tt)))
step_at End s b fits = tt

pub step_good : (s : Half) (b : ℕ) → Fits s → Good (written s) b (step_of s b)
step_good s b fits = step_at s.next s b fits

-- some half begins so
abbrev pub BeginsHalf : List ℕ → Type 0
BeginsHalf bytes = (level cats : ℕ) × (rest : List ℕ) × (level < 256) × (cats < 2 ^ 64) × (half_text level cats ≡ bytes ++ rest)

begins_at : (x : Next) (s : Half) → Fits (record s { next = x }) → BeginsHalf (written (record s { next = x }))
begins_at Level s fits = (0, 0, half_text 0 0, omega arith, omega arith, refl)
begins_at MoreLevel s fits =
    let set : List ℕ = listed (categories_below 64 0) in (
      s.number,
      0,
      codes "{" ++ set ++ codes "}",
      fits.0,
      omega arith,
      ap (λ (xs : List ℕ). xs ++ codes "}") (append_assoc (decimal s.number) (codes "{") set) ∙ append_assoc (decimal s.number) (codes "{" ++ set) (codes "}"),
    )
begins_at FirstCategory s fits = (
  s.level,
  s.cats,
  codes "}",
  fits.0,
  omega (arith, fits.1),
  ap (λ (xs : List ℕ). decimal s.level ++ codes "{" ++ xs ++ codes "}") (none_listed s.cats fits.1),
)
begins_at Category s fits = (
  s.level,
  s.cats + 2 ^ 63,
  decimal 63 ++ codes "}",
  fits.0,
  room_in_all s.cats s.least 63 fits.1 (omega (arith, fits.2)) (omega arith),
  ap (λ (xs : List ℕ). xs ++ codes "}") (listed_one s.level s.cats s.least 63 fits.1 (omega (arith, fits.2)) (omega arith)) ∙ append_assoc (opened s.level s.cats) (decimal 63) (codes "}"),
)
begins_at MoreCategory s fits =
    elim (category_bounds s.least s.number fits.2) [
      | inl is ↦ (
        s.level,
        s.cats + 2 ^ s.number,
        codes "}",
        fits.0,
        room_in_all s.cats s.least s.number fits.1 is.0 (omega (arith, is.1)),
        ap (λ (xs : List ℕ). xs ++ codes "}") (listed_one s.level s.cats s.least s.number fits.1 is.0 (omega (arith, is.1))),
      )
      | inr small ↦
          let d : ℕ = min 57 (48 + (63 - 10 * s.number)) in
          let k : ℕ = 10 * s.number + (d - 48) in
          let at : s.least ≤ k = omega (arith, small.1, small.2, small.3) in
          let to : k < 64 = omega (arith, small.1) in (
            s.level,
            s.cats + 2 ^ k,
            d ∷ codes "}",
            fits.0,
            room_in_all s.cats s.least k fits.1 at to,
            ap (λ (xs : List ℕ). xs ++ codes "}") (listed_one s.level s.cats s.least k fits.1 at to)
                ∙ ap (λ (xs : List ℕ). opened s.level s.cats ++ xs ++ codes "}") (more_digit s.number d small.0 (omega (arith, small.1)) (omega arith) (omega arith))
                ∙ ap (λ (xs : List ℕ). xs ++ codes "}") (sym (append_assoc (opened s.level s.cats) (decimal s.number) (d ∷ [])))
                ∙ append_assoc (opened s.level s.cats ++ decimal s.number) (d ∷ []) (codes "}"),
          )
    ]
begins_at End s fits = (s.level, s.cats, [], fits.0, fits.1, sym (append-nil (half_text s.level s.cats)))

-- what was read begins a half
pub begins : (s : Half) → Fits s → BeginsHalf (written s)
begins s fits = begins_at s.next s fits

pub start_fits : Fits start_of × (written start_of ≡ [])
unfolding start_of
start_fits = ((refl, refl), refl)

whole_at : (x : Next) (s : Half) → Fits (record s { next = x }) → is_whole (record s { next = x }) ≡ true → (s.level < 256) × (s.cats < 2 ^ 64) × (written (record s { next = x }) ≡ half_text s.level s.cats)
whole_at End s fits is = (fits.0, fits.1, refl)
whole_at Level s fits is = absurd (false≢true is)
whole_at MoreLevel s fits is = absurd (false≢true is)
whole_at FirstCategory s fits is = absurd (false≢true is)
whole_at Category s fits is = absurd (false≢true is)
whole_at MoreCategory s fits is = absurd (false≢true is)

-- a half that was read to its end
pub whole_half : (s : Half) → Fits s → is_whole s ≡ true → (s.level < 256) × (s.cats < 2 ^ 64) × (written s ≡ half_text s.level s.cats)
whole_half s fits is = whole_at s.next s fits is
