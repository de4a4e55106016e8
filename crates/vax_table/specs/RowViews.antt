-- What the code's rows say, in both of their forms, in the table's words.
use Rattle.std.specs.Prelude.{[], ◌∷◌, Option, Some, None}
use Rattle.vax_table.specs.declared.forms.Row.{Row}
use Rattle.vax_table.specs.declared.packed_rows.PackedRow.{PackedRow}
use Rattle.vax_table.specs.declared.packed_rows.PackedRow.TheVariants.{Unknown, One, Two, Three, Four}
use Rattle.vax_table.specs.declared.packed_rows.PackedRow.TheVariants as packed
use Rattle.vax_table.specs.Rows.{OpcodeEntry}

-- a row without where its operands lie in memory
abbrev pub row_view : Row → OpcodeEntry
row_view row = record { operands = row.operands.items }

abbrev pub row_views : Option Row → Option OpcodeEntry
row_views None = None
row_views (Some row) = Some (row_view row)

abbrev pub opcode_entry_view : PackedRow → Option OpcodeEntry
opcode_entry_view Unknown = None
opcode_entry_view packed.None = Some (record { operands = [] })
opcode_entry_view (One a) = Some (record { operands = a ∷ [] })
opcode_entry_view (Two a b) = Some (record { operands = a ∷ b ∷ [] })
opcode_entry_view (Three a b c) = Some (record { operands = a ∷ b ∷ c ∷ [] })
opcode_entry_view (Four a b c d) = Some (record { operands = a ∷ b ∷ c ∷ d ∷ [] })
