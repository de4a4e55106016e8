-- The listing of a source: a line for each of its lines, with the address, the bytes and the line's text, and after them a line
-- for each name. It has the bytes that `asm_of` gives, and is refused as they are. An address has eight digits of base 16 and
-- a byte two. Each line ends with a line feed (10); a blank is 32.
use Rattle.std.specs.List.{flat_map}
use Rattle.std.specs.Option.{unwrap_or}
use Rattle.std.specs.Prelude.{ℕ, ◌+◌, ◌-◌, ◌*◌, List, [], ◌∷◌, ◌++◌, length, take, drop, replicate, codes, Option, Some, None, Result, Ok}
use Rattle.std.specs.Str.Lines.{lines}
use Rattle.vv_base.specs.Digits.{hex_text}
use Rattle.vasm_text.specs.Asm.{◌>>=◌, asm_of, source_line_size}
use Rattle.vasm_text.specs.Statements.{SourceLine, source_line_in}
use Rattle.vasm_text.specs.declared.fault.AsmFault.{AsmFault}

-- what a line says; one of no form, which no assembled text has, says nothing
abbrev pub said_in : List ℕ → SourceLine
said_in text = unwrap_or (source_line_in text) (record { label = None; statement = None })

-- bytes in a column of sixteen digits; more than eight bytes make it wider
abbrev pub bytes_column : List ℕ → List ℕ
bytes_column bytes = flat_map (hex_text 2) bytes ++ replicate (16 - 2 * length bytes) 32

abbrev pub listed_line : ℕ → List ℕ → List ℕ → List ℕ
listed_line at bytes text = hex_text 8 at ++ (32 ∷ bytes_column bytes) ++ (32 ∷ text) ++ 10 ∷ []

-- the lines from an address on, which have these bytes: each has as many as its size says
abbrev pub listed_lines : ℕ → List ℕ → List (List ℕ) → List ℕ
listed_lines at bytes [] = []
listed_lines at bytes (text ∷ texts) =
    listed_line at (take (source_line_size (said_in text)) bytes) text
    ++ listed_lines (at + source_line_size (said_in text)) (drop (source_line_size (said_in text)) bytes) texts

-- a name as `nm` shows that of code
abbrev pub listed_name : ℕ → Option (List ℕ) → List ℕ
listed_name at None = []
listed_name at (Some name) = hex_text 8 at ++ codes " T " ++ name ++ 10 ∷ []

-- the names that label lines from an address on
abbrev pub listed_names : ℕ → List (List ℕ) → List ℕ
listed_names at [] = []
listed_names at (text ∷ texts) = listed_name at (said_in text).label ++ listed_names (at + source_line_size (said_in text)) texts

abbrev pub listing : List ℕ → List ℕ → List ℕ
listing bytes text = listed_lines 0x200 bytes (lines text) ++ listed_names 0x200 (lines text)

-- the listing of a text, or the first line that is refused
unfoldable pub listing_of : List ℕ → Result (List ℕ) AsmFault
listing_of text = asm_of text >>= λ bytes. Ok (listing bytes text)
