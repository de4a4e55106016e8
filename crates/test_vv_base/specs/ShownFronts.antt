-- A worked example of what is at the front of bytes, by computation.
use Rattle.std.specs.Prelude.{◌≡◌, refl, [], ◌∷◌, codes}
use Rattle.std.specs.Fmt.{digits}
use Rattle.vax_table.specs.Reading.{decoded_at, operand_at, indexed_at, specifier_at, specifier_by}
use Rattle.vax_table.specs.Rows.{row_of}
use Rattle.vasm_text.specs.Front.{front_text}
use Rattle.vasm_text.specs.Printing.{byte_text, field_text}

-- MOVL to a literal is no instruction, so its first byte is shown alone
pub a_reserved_form_in_front : front_text (0xd0 ∷ 0x01 ∷ 0x01 ∷ 0x00 ∷ []) ≡ codes ".byte ^XD0"
unfolding digits front_text byte_text field_text decoded_at operand_at indexed_at specifier_at specifier_by row_of
a_reserved_form_in_front = refl
