-- Bytes that are not below a bound: in front of a blank or a line feed they are a word, or a line.
use Rattle.std.proofs.Common.{◌≡◌, ◌≤◌, ◌<◌, ◌+◌, ◌^◌, ◌==◌, decimal, ℕ, zero, suc, List, [], ◌∷◌, ◌++◌, length, filter, take, drop, get_or, Bool, true, false, ◌&&◌, nat_le, Some, refl, sym, ◌∙◌, ap, arith, rules, lit<, lit≤, inl, inr}
use Rattle.std.proofs.lemmas.Bool.{and_parts, cond_both, le-leb, leb-true, ne_eqb, eq-eqb, or_cases}
use Rattle.std.proofs.lemmas.Fmt.{digits_decimal, digits_value-decimal, first_decimal}
use Rattle.std.proofs.lemmas.Grind.{common_steps}
use Rattle.std.proofs.lemmas.List.{take_at, drop_at, append_assoc, get_or_append_left, get_or_at, length_push}
use Rattle.std.proofs.lemmas.List.Elements.{All-from_recursion}
use Rattle.std.proofs.lemmas.List.Sums.{position_or_len_is}
use Rattle.std.proofs.lemmas.Str.Parse.{IsNumeralModel, numerals_by_fold}
use Rattle.std.specs.List.{AllByRecursion as ByRecursion, list_all, position_or_len, range_with_len}
use Rattle.vv_base.specs.Digits.{decimal_from, decimal_of, is_decimal, is_digit}
use Rattle.vv_base.specs.Names.{is_letter, is_name_character, is_object_name}
use Rattle.vv_class.specs.Class.{IsClass}
use Rattle.vv_base.specs.Bits.{is_set}
use Rattle.vv_class.specs.Text.{categories_below, class_text, half_text, listed}
use Rattle.vv_class.specs.declared.class.AccessClass.{AccessClass}
use Rattle.sys_script.specs.EventLine.{after_blank, front}

abbrev pub AreFrom : ℕ → List ℕ → Type 0
AreFrom least bytes = ByRecursion (λ b. least ≤ b) bytes

pub joined : (least : ℕ) (xs ys : List ℕ) → AreFrom least xs → AreFrom least ys → AreFrom least (xs ++ ys)
joined least [] ys first second = second
joined least (x ∷ xs) ys first second = (first.0, joined least xs ys first.1 second)

pub lower : (more less : ℕ) (xs : List ℕ) → less ≤ more → AreFrom more xs → AreFrom less xs
lower more less [] below all = tt
lower more less (x ∷ xs) below all = (omega (arith, below, all.0), lower more less xs below all.1)

pub from_test : (test : ℕ → Bool) (least : ℕ) → ((b : ℕ) → test b ≡ true → least ≤ b) → (bytes : List ℕ) → list_all test bytes ≡ true → AreFrom least bytes
from_test test least bound [] is = tt
from_test test least bound (b ∷ bytes) is =
    let parts = and_parts (test b) (list_all test bytes) is in
    (bound b parts.0, from_test test least bound bytes parts.1)

lacks : (least c : ℕ) (xs : List ℕ) → c < least → AreFrom least xs → (i : ℕ) → i < length xs → (get_or xs i 0 == c) ≡ false
lacks least c xs below all i within =
    let from : least ≤ get_or xs i 0 = All-from_recursion (λ b. least ≤ b) xs all i 0 within in
    ne_eqb (get_or xs i 0) c (omega (arith, below, from))

-- cut at the first blank
position_at : (least c : ℕ) (xs ys : List ℕ) → c < least → AreFrom least xs → position_or_len (λ b. b == c) (xs ++ c ∷ ys) ≡ length xs
position_at least c xs ys below all =
    position_or_len_is (λ b. b == c) (xs ++ c ∷ ys) (length xs) 0 (grind (arith, common_steps))
    (λ k within. rw get_or_append_left (lacks least c xs below all k within)) (λ _. rw (get_or_at xs c ys 0 (length xs) refl) (eq-eqb c c refl))

pub front_at : (xs ys : List ℕ) → AreFrom 33 xs → front (xs ++ 32 ∷ ys) ≡ xs
front_at xs ys all = ap (λ n. take n (xs ++ 32 ∷ ys)) (position_at 33 32 xs ys (lit< tt) all) ∙ take_at xs (32 ∷ ys) (length xs) refl

pub after_at : (xs ys : List ℕ) → AreFrom 33 xs → after_blank (xs ++ 32 ∷ ys) ≡ ys
after_at xs ys all =
    ap (λ n. drop (n + 1) (xs ++ 32 ∷ ys)) (position_at 33 32 xs ys (lit< tt) all)
    ∙ ap (drop (length xs + 1)) (sym (append_assoc xs (32 ∷ []) ys)) ∙ drop_at (xs ++ 32 ∷ []) ys (length xs + 1) (length_push xs 32)

-- numbers
own : IsNumeralModel (λ digits. list_all is_digit digits ≡ true) (decimal_from 0)
own = numerals_by_fold (λ digits. list_all is_digit digits ≡ true) (search rules) decimal_from (search rules)

is_a_number : (digits : List ℕ) → list_all is_digit digits ≡ true → 48 < get_or digits 0 0 → is_decimal digits ≡ true
is_a_number [] all first = grind arith
is_a_number (d ∷ []) all first = (and_parts (is_digit d) true all).0
is_a_number (d ∷ e ∷ digits) all first = rw (ne_eqb d 48 (omega (arith, first)), all)

pub number_read : (n : ℕ) → 1 ≤ n → n ≤ 1000000 → decimal_of (decimal n) 1000000 ≡ Some n
number_read n from to =
    let small : n < 2 ^ 64 = omega (arith, to) in
    let all : list_all is_digit (decimal n) ≡ true = digits_decimal own n small in
    let value : decimal_from 0 (decimal n) ≡ n = digits_value-decimal own n small in
    rw (is_a_number (decimal n) all (first_decimal n from small), value, le-leb n 1000000 to)

digits_from : (b : ℕ) → is_digit b ≡ true → 48 ≤ b
digits_from b is = leb-true 48 b (and_parts (nat_le 48 b) (nat_le b 57) is).0

pub number_from : (n : ℕ) → n < 2 ^ 64 → AreFrom 48 (decimal n)
number_from n small = from_test is_digit 48 digits_from (decimal n) (digits_decimal own n small)

-- names
letters_from : (b : ℕ) → is_letter b ≡ true → 65 ≤ b
letters_from b is = leb-true 65 b (and_parts (nat_le 65 b) (nat_le b 90) is).0

characters_from : (b : ℕ) → is_name_character b ≡ true → 48 ≤ b
characters_from b is = elim (or_cases (is_letter b) (nat_le 48 b && nat_le b 57) is) [ inl letter ↦ omega (arith, letters_from b letter) | inr digit ↦ leb-true 48 b (and_parts (nat_le 48 b) (nat_le b 57) digit).0 ]

pub name_from : (name : List ℕ) → is_object_name name ≡ true → AreFrom 48 name
name_from [] is = tt
name_from (b ∷ name) is =
    let outer = and_parts (is_letter b && list_all is_name_character name) (nat_le (length name) 7) is in
    let inner = and_parts (is_letter b) (list_all is_name_character name) outer.0 in
    (omega (arith, letters_from b inner.0), from_test is_name_character 48 characters_from name inner.1)

-- classes
abbrev AreBelow : ℕ → List ℕ → Type 0
AreBelow most ns = ByRecursion (λ n. n < most) ns

filtered_below : (most : ℕ) (p : ℕ → Bool) (ns : List ℕ) → AreBelow most ns → AreBelow most (filter p ns)
filtered_below most p [] all = tt
filtered_below most p (n ∷ ns) all = cond_both (p n) (n ∷ filter p ns) (filter p ns) (AreBelow most) (λ is. (all.0, filtered_below most p ns all.1)) (λ other. filtered_below most p ns all.1)

range_below : (most n from : ℕ) → from + n ≤ most → AreBelow most (range_with_len from n)
range_below most zero from h = tt
range_below most (suc n) from h = (omega (arith, h), range_below most n (from + 1) (omega (arith, h)))

numbers_from : (ns : List ℕ) → AreBelow 64 ns → AreFrom 44 (listed ns)
numbers_from [] all = tt
numbers_from (n ∷ []) all = lower 48 44 (decimal n) (lit≤ tt) (number_from n (omega (arith, all.0)))
numbers_from (n ∷ m ∷ ns) all =
    joined 44 (decimal n) (44 ∷ listed (m ∷ ns)) (lower 48 44 (decimal n) (lit≤ tt) (number_from n (omega (arith, all.0)))) (lit≤ tt, numbers_from (m ∷ ns) all.1)

half_from : (level cats : ℕ) → level < 256 → AreFrom 44 (half_text level cats)
unfolding categories_below
half_from level cats few =
    let number : AreFrom 44 (decimal level) = lower 48 44 (decimal level) (lit≤ tt) (number_from level (omega (arith, few))) in
    let set : AreFrom 44 (listed (categories_below 64 cats)) = numbers_from (categories_below 64 cats) (filtered_below 64 (is_set cats) (range_with_len 0 64) (range_below 64 64 0 (lit≤ tt))) in
    joined 44 (decimal level ++ 123 ∷ [] ++ listed (categories_below 64 cats)) (125 ∷ [])
    (joined 44 (decimal level ++ 123 ∷ []) (listed (categories_below 64 cats)) (joined 44 (decimal level) (123 ∷ []) number (lit≤ tt, tt)) set) (lit≤ tt, tt)

pub class_from : (class : AccessClass) → IsClass class → AreFrom 44 (class_text class)
unfolding class_text
class_from class is =
    joined 44 (half_text class.secrecy class.secrecy_cats ++ 59 ∷ []) (half_text class.integrity class.integrity_cats)
    (joined 44 (half_text class.secrecy class.secrecy_cats) (59 ∷ []) (half_from class.secrecy class.secrecy_cats (omega (arith, is.secrecy))) (lit≤ tt, tt))
    (half_from class.integrity class.integrity_cats (omega (arith, is.integrity)))
