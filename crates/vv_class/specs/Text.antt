-- The text of an access class: `2{1,5};0{}` is secrecy level 2 with categories 1 and 5, and integrity
-- level 0 with none. Profile: categories rise, and numbers have no leading zeros, so that each class
-- has one text.
use Rattle.std.specs.Prelude.{◌≡◌, ℕ, ◌≤◌, ◌^◌, ◌==◌, nat_le, ◌&&◌, List, [], ◌∷◌, ◌++◌, codes, length, map, filter, take, decimal, sum_by, bytes_eq, if◌then◌else◌, Option, Some, None}
use Rattle.std.specs.List.{after_first, before_first, join_with_byte, range_with_len, slice_split}
use Rattle.vv_class.specs.Class.{IsClass}
use Rattle.vv_base.specs.Bits.{is_set}
use Rattle.vv_base.specs.Digits.{decimal_from}
use Rattle.vv_class.specs.declared.class.AccessClass.{AccessClass}

-- the categories of a set that are below a number, in rising order
unfoldable pub categories_below : ℕ → ℕ → List ℕ
categories_below n cats = filter (is_set cats) (range_with_len 0 n)

-- numbers with a comma (44) between each two
abbrev pub listed : List ℕ → List ℕ
listed numbers = join_with_byte 44 (map decimal numbers)

-- a level with its set
abbrev pub half_text : ℕ → ℕ → List ℕ
half_text level cats = decimal level ++ codes "{" ++ listed (categories_below 64 cats) ++ codes "}"

-- the text of a class
unfoldable pub class_text : AccessClass → List ℕ
class_text c = half_text c.secrecy c.secrecy_cats ++ codes ";" ++ half_text c.integrity c.integrity_cats

-- the set that numbers stand for, with a comma between each two
abbrev pub set_of_numbers : List ℕ → ℕ
set_of_numbers [] = 0
set_of_numbers (b ∷ bytes) = sum_by (λ number. 2 ^ decimal_from 0 number) (slice_split (λ c. c == 44) (b ∷ bytes))

-- the number before an opening brace (123), and the set between it and a closing one (125)
abbrev pub level_in : List ℕ → ℕ
level_in half = decimal_from 0 (before_first (λ b. b == 123) half)

abbrev pub set_in : List ℕ → ℕ
set_in half = set_of_numbers (before_first (λ b. b == 125) (after_first (λ b. b == 123) half))

-- the class whose text this is: that of the numbers before and after the semicolon (59), if it has this text
unfoldable pub class_in : List ℕ → Option AccessClass
class_in text =
    let one = before_first (λ b. b == 59) text in
    let two = after_first (λ b. b == 59) text in
    let c : AccessClass = record { secrecy = level_in one; secrecy_cats = set_in one; integrity = level_in two; integrity_cats = set_in two } in
    if bytes_eq (class_text c) text && nat_le c.secrecy 255 && nat_le c.integrity 255 then Some c else None

-- some class text begins so
abbrev pub BeginsText : List ℕ → Type 0
BeginsText bytes = (c : AccessClass) × (rest : List ℕ) × IsClass c × (class_text c ≡ bytes ++ rest)

-- the length of the longest start of the bytes that begins a class text
pub record IsLongestStart (bytes : List ℕ) (place : ℕ) : Type 0 where
  pub within : place ≤ length bytes
  pub begins : BeginsText (take place bytes)
  pub longest : (n : ℕ) → n ≤ length bytes → BeginsText (take n bytes) → n ≤ place
