-- The class that the numbers of a text give is the class that is read.
use Rattle.std.proofs.Common.{◌≡◌, ◌≢◌, ℕ, ◌+◌, ◌<◌, ◌≤◌, ◌%◌, ◌^◌, ◌==◌, Bool, true, false, ◌&&◌, nat_le, List, [], ◌∷◌, ◌++◌, length, take, drop, map, codes, decimal, bytes_eq, if◌then◌else◌, Option, Some, None, Result, Ok, Err, refl, sym, ap, ◌∙◌, subst, arith, rules, append_assoc, length-append}
use Rattle.std.specs.List.{AllByRecursion as ByRecursion, after_first, before_first, list_all, position_or_len, slice_split, sum_by}
use Rattle.std.specs.Result.{result_ok}
use Rattle.std.proofs.lemmas.Bool.{and_parts, eq-eqb, eqb-true, le-leb, leb-true, true≢false}
use Rattle.std.proofs.lemmas.Fmt.{decimal_nonempty, digits_decimal, digits_value-decimal}
use Rattle.std.proofs.lemmas.Grind.{common_steps}
use Rattle.std.proofs.lemmas.List.{take_at, drop_at, get_or_append_left, get_or_at, length_push}
use Rattle.std.proofs.lemmas.List.Elements.{All-from_recursion}
use Rattle.std.proofs.lemmas.List.Splits.{slice_split_at, slice_split_none}
use Rattle.std.proofs.lemmas.List.Sums.{position_or_len_is, sum_by-cons}
use Rattle.std.proofs.lemmas.Slice.Eq.{bytes_eq-Decides}
use Rattle.std.proofs.lemmas.Str.Parse.{IsNumeralModel, numerals_by_fold}
use Rattle.vv_base.specs.Digits.{decimal_from, is_digit}
use Rattle.vv_class.specs.declared.class.AccessClass.{AccessClass}
use Rattle.vv_class.specs.declared.text.ClassFault.{ClassFault}
use Rattle.vv_class.specs.Class.{IsClass}
use Rattle.vv_class.specs.Scan.{class_of}
use Rattle.vv_class.specs.Text.{categories_below, class_in, class_text, half_text, level_in, listed, set_in, set_of_numbers}
use Rattle.vv_class.proofs.Places.{reads_text, refuses_others}
use Rattle.vv_class.proofs.Sets.{Rising, listed-cons, rising_below, tail_text, weight, weight_below}

-- A byte that doesn't occur.
abbrev Lacks : ℕ → List ℕ → Type 0
Lacks c bytes = ByRecursion (λ b. (b == c) ≡ false) bytes

joined : (c : ℕ) (xs ys : List ℕ) → Lacks c xs → Lacks c ys → Lacks c (xs ++ ys)
joined c [] ys first second = second
joined c (x ∷ xs) ys first second = (first.0, joined c xs ys first.1 second)

differs : (b c : ℕ) → is_digit b ≡ true → is_digit c ≡ false → (b == c) ≡ false
differs b c is other = by_test (b == c) refl
  where
    by_test : (t : Bool) → (b == c) ≡ t → (b == c) ≡ false
    by_test false e = e
    by_test true e = absurd (true≢false (sym is ∙ ap is_digit (eqb-true b c e) ∙ other))

digits_lack : (c : ℕ) → is_digit c ≡ false → (bytes : List ℕ) → list_all is_digit bytes ≡ true → Lacks c bytes
digits_lack c other [] all = tt
digits_lack c other (b ∷ bytes) all =
    let parts = and_parts (is_digit b) (list_all is_digit bytes) all in
    (differs b c parts.0 other, digits_lack c other bytes parts.1)

-- Numbers.
own : IsNumeralModel (λ digits. list_all is_digit digits ≡ true) (decimal_from 0)
own = numerals_by_fold (λ digits. list_all is_digit digits ≡ true) (search rules) decimal_from (search rules)

number_lacks : (c : ℕ) → is_digit c ≡ false → (n : ℕ) → n < 2 ^ 64 → Lacks c (decimal n)
number_lacks c other n small = digits_lack c other (decimal n) (digits_decimal own n small)

value : (n : ℕ) → n < 2 ^ 64 → decimal_from 0 (decimal n) ≡ n
value n small = digits_value-decimal own n small

-- Cut at the first of a byte.
position_at : (c : ℕ) (xs ys : List ℕ) → Lacks c xs → position_or_len (λ b. b == c) (xs ++ c ∷ ys) ≡ length xs
position_at c xs ys lacks =
    position_or_len_is (λ b. b == c) (xs ++ c ∷ ys) (length xs) 0 (grind (arith, common_steps))
    (λ k within. rw get_or_append_left (All-from_recursion (λ b. (b == c) ≡ false) xs lacks k 0 within))
    (λ _. rw (get_or_at xs c ys 0 (length xs) refl) (eq-eqb c c refl))

front_at : (c : ℕ) (xs ys : List ℕ) → Lacks c xs → before_first (λ b. b == c) (xs ++ c ∷ ys) ≡ xs
front_at c xs ys lacks = ap (λ n. take n (xs ++ c ∷ ys)) (position_at c xs ys lacks) ∙ take_at xs (c ∷ ys) (length xs) refl

rest_at : (c : ℕ) (xs ys : List ℕ) → Lacks c xs → after_first (λ b. b == c) (xs ++ c ∷ ys) ≡ ys
rest_at c xs ys lacks =
    ap (λ n. drop (n + 1) (xs ++ c ∷ ys)) (position_at c xs ys lacks)
    ∙ ap (drop (length xs + 1)) (sym (append_assoc xs (c ∷ []) ys)) ∙ drop_at (xs ++ c ∷ []) ys (length xs + 1) (length_push xs c)

-- The numbers of a set.
tail_lacks : (c : ℕ) → is_digit c ≡ false → (44 == c) ≡ false → (least : ℕ) (ks : List ℕ) → Rising least ks → Lacks c (tail_text ks)
tail_lacks c sign comma least [] h = tt
tail_lacks c sign comma least (k ∷ ks) h = (comma, joined c (decimal k) (tail_text ks) (number_lacks c sign k (omega (arith, h.1))) (tail_lacks c sign comma (k + 1) ks h.2))

listed_lacks : (c : ℕ) → is_digit c ≡ false → (44 == c) ≡ false → (least : ℕ) (ks : List ℕ) → Rising least ks → Lacks c (listed ks)
listed_lacks c sign comma least [] h = tt
listed_lacks c sign comma least (k ∷ ks) h =
    subst (Lacks c) (sym (listed-cons k ks)) (joined c (decimal k) (tail_text ks) (number_lacks c sign k (omega (arith, h.1))) (tail_lacks c sign comma (k + 1) ks h.2))

pieces : (least k : ℕ) (ks : List ℕ) → Rising least (k ∷ ks) → slice_split (λ b. b == 44) (listed (k ∷ ks)) ≡ map decimal (k ∷ ks)
pieces least k [] h = slice_split_none (λ b. b == 44) (decimal k) (All-from_recursion (λ b. (b == 44) ≡ false) (decimal k) (number_lacks 44 refl k (omega (arith, h.1))))
pieces least k (j ∷ ks) h =
    slice_split_at (λ b. b == 44) (decimal k) 44 (listed (j ∷ ks)) (All-from_recursion (λ b. (b == 44) ≡ false) (decimal k) (number_lacks 44 refl k (omega (arith, h.1)))) refl
    ∙ ap (λ (ts : List (List ℕ)). decimal k ∷ ts) (pieces (k + 1) j ks h.2)

abbrev power : List ℕ → ℕ
power number = 2 ^ decimal_from 0 number

powers : (least : ℕ) (ks : List ℕ) → Rising least ks → sum_by power (map decimal ks) ≡ weight ks
powers least [] h = refl
powers least (k ∷ ks) h =
    let one : decimal_from 0 (decimal k) ≡ k = value k (omega (arith, h.1)) in
    let rest = powers (k + 1) ks h.2 in
    sum_by-cons power (decimal k) (map decimal ks) ∙ (λ i. 2 ^ one i + rest i)

some_numbers : (bytes : List ℕ) → 0 < length bytes → set_of_numbers bytes ≡ sum_by power (slice_split (λ b. b == 44) bytes)
some_numbers [] some = absurd (omega arith)
some_numbers (b ∷ bytes) some = refl

listed_some : (k : ℕ) (ks : List ℕ) → k < 64 → 0 < length (listed (k ∷ ks))
listed_some k ks below =
    let digits : 0 < length (decimal k) = decimal_nonempty k (omega arith) in
    let size : length (listed (k ∷ ks)) ≡ length (decimal k) + length (tail_text ks) = ap length (listed-cons k ks) ∙ length-append (decimal k) (tail_text ks) in
    omega arith

set_read : (least : ℕ) (ks : List ℕ) → Rising least ks → set_of_numbers (listed ks) ≡ weight ks
set_read least [] h = refl
set_read least (k ∷ ks) h =
    some_numbers (listed (k ∷ ks)) (listed_some k ks h.1) ∙ ap (sum_by power) (pieces least k ks h) ∙ powers least (k ∷ ks) h

-- A half.
abbrev set_text : ℕ → List ℕ
set_text cats = listed (categories_below 64 cats)

half_is : (level cats : ℕ) → half_text level cats ≡ decimal level ++ 123 ∷ (set_text cats ++ 125 ∷ [])
half_is level cats = ap (λ (xs : List ℕ). xs ++ codes "}") (append_assoc (decimal level) (codes "{") (set_text cats)) ∙ append_assoc (decimal level) (codes "{" ++ set_text cats) (codes "}")

level_read : (level cats : ℕ) → level < 2 ^ 64 → level_in (half_text level cats) ≡ level
level_read level cats small =
    ap level_in (half_is level cats) ∙ ap (decimal_from 0) (front_at 123 (decimal level) (set_text cats ++ 125 ∷ []) (number_lacks 123 refl level small)) ∙ value level small

cats_read : (level cats : ℕ) → level < 2 ^ 64 → set_in (half_text level cats) ≡ cats % 2 ^ 64
cats_read level cats small =
    ap set_in (half_is level cats)
    ∙ ap (λ (xs : List ℕ). set_of_numbers (before_first (λ b. b == 125) xs)) (rest_at 123 (decimal level) (set_text cats ++ 125 ∷ []) (number_lacks 123 refl level small))
    ∙ ap set_of_numbers (front_at 125 (set_text cats) [] (listed_lacks 125 refl refl 0 (categories_below 64 cats) (rising_below cats)))
    ∙ set_read 0 (categories_below 64 cats) (rising_below cats) ∙ weight_below 64 cats

half_lacks : (level cats : ℕ) → level < 2 ^ 64 → Lacks 59 (half_text level cats)
half_lacks level cats small =
    let set : Lacks 59 (set_text cats ++ 125 ∷ []) = joined 59 (set_text cats) (125 ∷ []) (listed_lacks 59 refl refl 0 (categories_below 64 cats) (rising_below cats)) (refl, tt) in
    subst (Lacks 59) (sym (half_is level cats)) (joined 59 (decimal level) (123 ∷ (set_text cats ++ 125 ∷ [])) (number_lacks 59 refl level small) (refl, set))

-- The class of a text's numbers.
abbrev numbers : List ℕ → AccessClass
numbers text =
    let one = before_first (λ b. b == 59) text in
    let two = after_first (λ b. b == 59) text in
    record { secrecy = level_in one; secrecy_cats = set_in one; integrity = level_in two; integrity_cats = set_in two }

abbrev low_cats : AccessClass → AccessClass
low_cats c = record { secrecy = c.secrecy; secrecy_cats = c.secrecy_cats % 2 ^ 64; integrity = c.integrity; integrity_cats = c.integrity_cats % 2 ^ 64 }

numbers_of_text : (c : AccessClass) → c.secrecy < 2 ^ 64 → c.integrity < 2 ^ 64 → numbers (class_text c) ≡ low_cats c
unfolding class_text
numbers_of_text c low high =
    let a : List ℕ = half_text c.secrecy c.secrecy_cats in
    let d : List ℕ = half_text c.integrity c.integrity_cats in
    let text : class_text c ≡ a ++ 59 ∷ d = append_assoc a (codes ";") d in
    let one : before_first (λ b. b == 59) (class_text c) ≡ a = ap (before_first (λ b. b == 59)) text ∙ front_at 59 a d (half_lacks c.secrecy c.secrecy_cats low) in
    let two : after_first (λ b. b == 59) (class_text c) ≡ d = ap (after_first (λ b. b == 59)) text ∙ rest_at 59 a d (half_lacks c.secrecy c.secrecy_cats low) in
    let secrecy = ap level_in one ∙ level_read c.secrecy c.secrecy_cats low in
    let secrecy_cats = ap set_in one ∙ cats_read c.secrecy c.secrecy_cats low in
    let integrity = ap level_in two ∙ level_read c.integrity c.integrity_cats high in
    let integrity_cats = ap set_in two ∙ cats_read c.integrity c.integrity_cats high in
    λ i. record { secrecy = secrecy i; secrecy_cats = secrecy_cats i; integrity = integrity i; integrity_cats = integrity_cats i }

abbrev if_its_text : AccessClass → List ℕ → Option AccessClass
if_its_text c text = if bytes_eq (class_text c) text && nat_le c.secrecy 255 && nat_le c.integrity 255 then Some c else None

-- each class is found by its text
pub found : (c : AccessClass) → IsClass c → class_in (class_text c) ≡ Some c
unfolding class_in
found c is =
    let same : low_cats c ≡ c =
    let one : c.secrecy_cats % 2 ^ 64 ≡ c.secrecy_cats = omega (arith, is.secrecy_cats) in
    let two : c.integrity_cats % 2 ^ 64 ≡ c.integrity_cats = omega (arith, is.integrity_cats) in
    λ i. record { secrecy = c.secrecy; secrecy_cats = one i; integrity = c.integrity; integrity_cats = two i } in
    let whole : numbers (class_text c) ≡ c = numbers_of_text c (omega (arith, is.secrecy)) (omega (arith, is.integrity)) ∙ same in
    let its_own : bytes_eq (class_text c) (class_text c) ≡ true = (bytes_eq-Decides (class_text c) (class_text c)).1 refl in
    ap (λ (d : AccessClass). if_its_text d (class_text c)) whole
    ∙ rw (its_own, le-leb c.secrecy 255 (omega (arith, is.secrecy)), le-leb c.integrity 255 (omega (arith, is.integrity))) refl

passed : {A : Type 0} (t : Bool) (x c : A) → (if t then Some x else None) ≡ Some c → (t ≡ true) × (x ≡ c)
passed true x c e = (refl, cc)
passed false x c e = cc

-- what is found is a class with this text
pub given : (text : List ℕ) (c : AccessClass) → class_in text ≡ Some c → IsClass c × (text ≡ class_text c)
unfolding class_in
given text c is =
    let d : AccessClass = numbers text in
    let p = passed (bytes_eq (class_text d) text && nat_le d.secrecy 255 && nat_le d.integrity 255) d c is in
    let outer = and_parts (bytes_eq (class_text d) text && nat_le d.secrecy 255) (nat_le d.integrity 255) p.0 in
    let inner = and_parts (bytes_eq (class_text d) text) (nat_le d.secrecy 255) outer.0 in
    let its_own : class_text d ≡ text = (bytes_eq-Decides (class_text d) text).0 inner.0 in
    let secrecy : d.secrecy ≤ 255 = leb-true d.secrecy 255 inner.1 in
    let integrity : d.integrity ≤ 255 = leb-true d.integrity 255 outer.1 in
    let low : d ≡ low_cats d = sym (ap numbers its_own) ∙ numbers_of_text d (omega (arith, secrecy)) (omega (arith, integrity)) in
    let one : d.secrecy_cats ≡ d.secrecy_cats % 2 ^ 64 = ap (λ (x : AccessClass). x.secrecy_cats) low in
    let two : d.integrity_cats ≡ d.integrity_cats % 2 ^ 64 = ap (λ (x : AccessClass). x.integrity_cats) low in
    let class : IsClass d = record { secrecy = omega (arith, secrecy); secrecy_cats = omega (arith, one); integrity = omega (arith, integrity); integrity_cats = omega (arith, two) } in
    subst (λ (x : AccessClass). IsClass x × (text ≡ class_text x)) p.1 (class, sym its_own)

none_given : (text : List ℕ) (o : Option AccessClass) → class_in text ≡ o → ((c : AccessClass) → IsClass c → text ≢ class_text c) → class_in text ≡ None
none_given text None e refused = e
none_given text (Some c) e refused = let is = given text c e in absurd (refused c is.0 is.1)

-- and so it is the class that is read
pub class_read : (text : List ℕ) (r : Result AccessClass ClassFault) → r ≡ class_of text → class_in text ≡ result_ok r
class_read text (Ok c) is = let read = reads_text text (Ok c) is in ap class_in read.1 ∙ found c read.0
class_read text (Err fault) is = none_given text (class_in text) refl (refuses_others text (Err fault) is)
