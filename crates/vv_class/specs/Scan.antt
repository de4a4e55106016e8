-- Reading the text of an access class byte by byte: a half, a semicolon and a half. That it reads
-- exactly the class texts, and stops at the longest start of one, is what `read_class` promises; this
-- is the reading as a function that computes.
use Rattle.std.specs.Prelude.{ℕ, List, [], ◌∷◌, Bool, true, false, ◌+◌, ◌-◌, ◌*◌, ◌^◌, ◌==◌, nat_le, nat_lt, ◌&&◌, ◌||◌, if◌then◌else◌, length, Option, Some, None, Result, Ok, Err}
use Rattle.vv_base.specs.Digits.{is_digit}
use Rattle.vv_class.specs.declared.class.AccessClass.{AccessClass}
use Rattle.vv_class.specs.declared.text.ClassFault.{ClassFault}
use Rattle.vv_class.specs.declared.scan.Next.TheVariants.{Level, MoreLevel, FirstCategory, Category, MoreCategory, End}
use Rattle.vv_class.specs.declared.scan.Half.{Half}

unfoldable pub start_of : Half
start_of = record { next = Level; number = 0; least = 0; level = 0; cats = 0 }

-- a digit goes on with a number that is not `0`
abbrev pub continues_number : Half → ℕ → Bool
continues_number s b = is_digit b && nat_le 1 s.number

-- a level begins or goes on
abbrev pub with_level : Half → ℕ → Option Half
with_level s n = if nat_le n 255 then Some (record s { next = MoreLevel; number = n }) else None

-- a number that is a category from the least one on, or becomes one by a further digit
abbrev pub may_be_category : ℕ → ℕ → Bool
may_be_category least n = (nat_le least n && nat_le n 63) || (nat_le 1 n && nat_le n 6 && nat_le least (10 * n + 9) && nat_le least 63)

-- a category begins or goes on
abbrev pub with_category : Half → ℕ → Option Half
with_category s n = if may_be_category s.least n then Some (record s { next = MoreCategory; number = n }) else None

-- the category that was read is in the set, and those that follow are above it
abbrev pub kept : Half → Half
kept s = record s { next = Category; least = s.number + 1; cats = s.cats + 2 ^ s.number; number = 0 }

-- the brace after a set
abbrev pub closed : Half → Half
closed s = record s { next = End }

-- what follows digits of a level: a brace (123), or a further digit unless they are `0`
unfoldable pub more_level : Half → ℕ → Option Half
more_level s b =
    if b == 123 then Some (record s { next = FirstCategory; level = s.number; number = 0 })
    else if continues_number s b then with_level s (10 * s.number + (b - 48)) else None

-- what follows digits of a category: a brace (125), a comma (44) if a category above is left, or a
-- further digit unless they are `0`
unfoldable pub more_category : Half → ℕ → Option Half
more_category s b =
    if b == 125 then (if nat_le s.least s.number && nat_le s.number 63 then Some (closed (kept s)) else None)
    else if b == 44 then (if nat_le s.least s.number && nat_lt s.number 63 then Some (kept s) else None)
    else if continues_number s b then with_category s (10 * s.number + (b - 48)) else None

-- one more byte of a half
unfoldable pub step_of : Half → ℕ → Option Half
step_of s b = elim s.next [
  | Level ↦ if is_digit b then with_level s (b - 48) else None
  | MoreLevel ↦ more_level s b
  | FirstCategory ↦ if b == 125 then Some (closed s) else if is_digit b then with_category s (b - 48) else None
  | Category ↦ if is_digit b then with_category s (b - 48) else None
  | MoreCategory ↦ more_category s b
  | End ↦ None
]

-- a half as far as it was read, and the bytes that do not go on with it
pub record Part : Type 0 where
  pub half : Half
  pub rest : List ℕ

-- bytes read as far as they go on with a half
abbrev pub part_of : Half → List ℕ → Part
part_of s [] = record { half = s; rest = [] }
part_of s (b ∷ bytes) = elim (step_of s b) [ None ↦ record { half = s; rest = b ∷ bytes } | Some next ↦ part_of next bytes ]

-- whether a half was read to its end
abbrev pub is_whole : Half → Bool
is_whole s = elim s.next [ End ↦ true | _ ↦ false ]

-- the fault after all but the rest
abbrev pub fault_before : List ℕ → List ℕ → Result AccessClass ClassFault
fault_before bytes rest = Err (record { place = length bytes - length rest })

abbrev pub class_of_halves : Half → Half → AccessClass
class_of_halves one two = record { secrecy = one.level; secrecy_cats = one.cats; integrity = two.level; integrity_cats = two.cats }

-- after the second half comes nothing
abbrev pub at_the_end : List ℕ → Half → Half → List ℕ → Result AccessClass ClassFault
at_the_end bytes one two [] = if is_whole two then Ok (class_of_halves one two) else fault_before bytes []
at_the_end bytes one two (b ∷ rest) = fault_before bytes (b ∷ rest)

-- after the first half come a semicolon (59) and the second
abbrev pub second_of : List ℕ → Half → List ℕ → Result AccessClass ClassFault
second_of bytes one [] = fault_before bytes []
second_of bytes one (b ∷ rest) =
    if is_whole one && b == 59 then (let two = part_of start_of rest in at_the_end bytes one two.half two.rest)
    else fault_before bytes (b ∷ rest)

-- the class of a text, or the place of its fault
unfoldable pub class_of : List ℕ → Result AccessClass ClassFault
class_of bytes = let one = part_of start_of bytes in second_of bytes one.half one.rest
