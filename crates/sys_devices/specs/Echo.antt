-- What an operator is shown of what terminals are shown (profile). 10 is a line feed, 13 a carriage return, 46 a point.
use Rattle.std.specs.Prelude.{ℕ, List, [], ◌∷◌, ◌++◌, not, ◌==◌, codes, filter, map, flat_map, if◌then◌else◌}
use Rattle.std.specs.Str.Lines.{lines}
use Rattle.sys_script.specs.Texts.{is_text_character}

-- a blank or a character that prints as itself, any other byte as a point
abbrev pub seen_byte : ℕ → ℕ
seen_byte b = if is_text_character b then b else 46

-- the terminal's name in front of each line
abbrev pub name_front : List ℕ → List ℕ
name_front name = name ++ codes ": "

abbrev pub echo_line : List ℕ → List ℕ → List ℕ
echo_line name line = name_front name ++ map seen_byte line ++ 10 ∷ []

-- bytes that a terminal was shown, line by line, without their carriage returns; the last line may lack its end
abbrev pub echo_of : List ℕ → List ℕ → List ℕ
echo_of name bytes = flat_map (echo_line name) (lines (filter (λ b. not (b == 13)) bytes))
