-- The code's rows say what the table says, opcode by opcode.
use Rattle.std.specs.Prelude.{map}
use Rattle.std.specs.List.{range_with_len}
use Rattle.std.proofs.Common.{◌≡◌, ℕ, ◌<◌, Bool, true, List, Option, None, get_or, length, refl, sym, ap, ◌∙◌, arith}
use Rattle.std.proofs.lemmas.List.{get_or-map}
use Rattle.std.proofs.lemmas.List.FromFn.{get_or-map-range_with_len}
use Rattle.vax_table.specs.declared.packed_rows.TheConstants.{PACKED_ROWS}
use Rattle.vax_table.specs.declared.packed_rows.PackedRow.TheVariants.{Unknown}
use Rattle.vax_table.specs.declared.act.Refusal.TheVariants.{Instruction}
use Rattle.vax_table.specs.Acted.{meaning_by}
use Rattle.vax_table.specs.InstructionSet.{Meaning, opcode_meaning, refused}
use Rattle.vax_table.specs.Operations.{branched, computed, is_narrow, operation_of}
use Rattle.vax_table.specs.Plan.{performed}
use Rattle.vax_table.specs.Rows.{OpcodeEntry, row_of}
use Rattle.vax_table.specs.RowViews.{opcode_entry_view}

-- all 256 at once, by computation
rows_are : map opcode_entry_view PACKED_ROWS ≡ map row_of (range_with_len 0 256)
unfolding row_of
rows_are = refl

rows_length : length PACKED_ROWS ≡ 256
rows_length = refl

pub row_is : (n : ℕ) → n < 256 → opcode_entry_view (get_or PACKED_ROWS n Unknown) ≡ row_of n
row_is n below =
    let within : n < length PACKED_ROWS = omega (arith, rows_length) in
    sym (get_or-map opcode_entry_view PACKED_ROWS n Unknown None within)
    ∙ ap (λ (xs : List (Option OpcodeEntry)). get_or xs n None) rows_are
    ∙ get_or-map-range_with_len row_of 0 256 n n None below (omega arith)

-- and what each instruction does
meanings_are : map (λ n. meaning_by (operation_of n)) (range_with_len 0 256) ≡ map opcode_meaning (range_with_len 0 256)
unfolding operation_of opcode_meaning performed computed branched
meanings_are = refl

nothing : Meaning
nothing = refused Instruction

pub meaning_below : (n : ℕ) → n < 256 → meaning_by (operation_of n) ≡ opcode_meaning n
meaning_below n below =
    sym (get_or-map-range_with_len (λ k. meaning_by (operation_of k)) 0 256 n n nothing below (omega arith))
    ∙ ap (λ (xs : List Meaning). get_or xs n nothing) meanings_are
    ∙ get_or-map-range_with_len opcode_meaning 0 256 n n nothing below (omega arith)

-- and it is in a byte, a word or a longword
narrow_all : map (λ n. is_narrow (operation_of n)) (range_with_len 0 256) ≡ map (λ n. true) (range_with_len 0 256)
unfolding operation_of
narrow_all = refl

pub operation_narrow : (n : ℕ) → n < 256 → is_narrow (operation_of n) ≡ true
operation_narrow n below =
    sym (get_or-map-range_with_len (λ k. is_narrow (operation_of k)) 0 256 n n true below (omega arith))
    ∙ ap (λ (xs : List Bool). get_or xs n true) narrow_all
    ∙ get_or-map-range_with_len (λ k. true) 0 256 n n true below (omega arith)
