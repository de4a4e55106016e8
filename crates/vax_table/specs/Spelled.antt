-- The one spelling of an operand and of an instruction, as a function.
use Rattle.std.specs.Prelude.{ℕ, ◌+◌, ◌*◌, nat_lt, ◌==◌, List, [], ◌∷◌, ◌++◌, Option, Some, None, if◌then◌else◌}
use Rattle.vv_base.specs.Width.{size_of}
use Rattle.vax_table.specs.declared.forms.Form.{Form}
use Rattle.vax_table.specs.declared.decoded.Spec.{Spec}
use Rattle.vax_table.specs.Spelling.{bytes_of}
use Rattle.vax_table.specs.Reading.{is_branch, displacement_size}

-- the bytes after a specifier's first
unfoldable pub value_size : Form → Spec → ℕ
value_size f s =
    if nat_lt s.mode 8 then 0 else
    if s.mode == 8 then (if s.reg == 15 then size_of f.width else 0) else
    if s.mode == 9 then (if s.reg == 15 then 4 else 0) else
    displacement_size s.mode

-- a specifier without index; a literal's first byte is its value
unfoldable pub spelled_specifier : Form → Spec → List ℕ
spelled_specifier f s = if s.mode == 0 then s.value ∷ [] else (16 * s.mode + s.reg) ∷ bytes_of (value_size f s) s.value

abbrev pub with_index_byte : Option ℕ → List ℕ → List ℕ
with_index_byte None bytes = bytes
with_index_byte (Some x) bytes = (0x40 + x) ∷ bytes

unfoldable pub spelled : Form → Spec → List ℕ
spelled f s = if is_branch f.access then bytes_of (size_of f.width) s.value else with_index_byte s.index (spelled_specifier f s)

abbrev pub spelled_all : List Form → List Spec → List ℕ
spelled_all [] ss = []
spelled_all (f ∷ fs) [] = []
spelled_all (f ∷ fs) (s ∷ ss) = spelled f s ++ spelled_all fs ss
