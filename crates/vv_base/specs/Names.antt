-- The names of objects and files.
use Rattle.std.specs.List.{list_all}
use Rattle.std.specs.declared.option.Option.{Option}
use Rattle.std.specs.declared.option.Option.TheVariants.{None, Some}
use Rattle.std.specs.Prelude.{ℕ, List, [], ◌∷◌, length, Bool, false, nat_le, ◌&&◌, ◌||◌, if◌then◌else◌}

-- A to Z
abbrev pub is_letter : ℕ → Bool
is_letter b = nat_le 0x41 b && nat_le b 0x5a

-- A to Z and 0 to 9
abbrev pub is_name_character : ℕ → Bool
is_name_character b = is_letter b || (nat_le 0x30 b && nat_le b 0x39)

-- an object's name: 1 to 8 of these characters, of which the first is a letter
abbrev pub is_object_name : List ℕ → Bool
is_object_name [] = false
is_object_name (b ∷ bytes) = is_letter b && list_all is_name_character bytes && nat_le (length bytes) 7

-- a character that prints and is no blank
abbrev pub is_graphic : ℕ → Bool
is_graphic b = nat_le 0x21 b && nat_le b 0x7e

-- a file's name: 1 to 64 of these characters
abbrev pub is_file_name : List ℕ → Bool
is_file_name bytes = nat_le 1 (length bytes) && nat_le (length bytes) 64 && list_all is_graphic bytes

-- the bytes, if they pass a test
abbrev pub tested : (List ℕ → Bool) → List ℕ → Option (List ℕ)
tested test bytes = if test bytes then Some bytes else None
