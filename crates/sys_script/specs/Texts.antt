-- The text of a typed line (profile).
use Rattle.std.specs.List.{list_all}
use Rattle.std.specs.Prelude.{ℕ, List, length, Bool, nat_le, ◌&&◌}

-- a blank, or a character that prints
abbrev pub is_text_character : ℕ → Bool
is_text_character b = nat_le 0x20 b && nat_le b 0x7e

-- at most 1,000 of them
abbrev pub is_text : List ℕ → Bool
is_text text = nat_le (length text) 1000 && list_all is_text_character text
