-- What a dump of a guest shows (profile): its name, its registers and PSL, and each row of 16 bytes of its memory that
-- isn't all zero.
use Rattle.std.specs.Prelude.{ℕ, zero, suc, ◌+◌, ◌/◌, Bool, not, ◌==◌, List, [], ◌∷◌, ◌++◌, codes, decimal, drop, length, take, if◌then◌else◌}
use Rattle.std.specs.List.{list_any}
use Rattle.vv_base.specs.Digits.{hex_text}
use Rattle.sys_server.specs.Replies.{with_line_end}
use Rattle.vm_state.specs.State.{Guest}

-- `R0 XXXXXXXX`, and the registers after it
unfoldable pub register_line : ℕ → ℕ → List ℕ
register_line n v = codes "R" ++ decimal n ++ codes " " ++ hex_text 8 v

abbrev pub register_lines : ℕ → List ℕ → List (List ℕ)
register_lines n [] = []
register_lines n (v ∷ vs) = register_line n v ∷ register_lines (n + 1) vs

-- each byte as a blank and two digits
abbrev pub byte_texts : List ℕ → List ℕ
byte_texts [] = []
byte_texts (b ∷ bs) = 32 ∷ hex_text 2 b ++ byte_texts bs

unfoldable pub row_line : ℕ → List ℕ → List ℕ
row_line at row = hex_text 8 at ++ byte_texts row

abbrev pub is_shown : List ℕ → Bool
is_shown row = list_any (λ b. not (b == 0)) row

abbrev pub if_shown : ℕ → List ℕ → List (List ℕ) → List (List ℕ)
if_shown at row more = if is_shown row then row_line at row ∷ more else more

-- n rows from an address on
abbrev pub row_lines : ℕ → ℕ → List ℕ → List (List ℕ)
row_lines zero at memory = []
row_lines (suc k) at memory = if_shown at (take 16 (drop at memory)) (row_lines k (at + 16) memory)

abbrev pub dump_lines : List ℕ → Guest → List (List ℕ)
dump_lines name g =
    (codes "VM " ++ name) ∷ (register_lines 0 g.state.r ++ (codes "PSL " ++ hex_text 8 g.state.psl) ∷ row_lines (length g.memory / 16) 0 g.memory)

-- lines one after another, each with CR and LF
abbrev pub text_of_lines : List (List ℕ) → List ℕ
text_of_lines [] = []
text_of_lines (line ∷ lines) = with_line_end line ++ text_of_lines lines

unfoldable pub dump_of : List ℕ → Guest → List ℕ
dump_of name g = text_of_lines (dump_lines name g)
