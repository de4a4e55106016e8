-- The operands of each opcode in order, by the instruction set.
use Rattle.std.specs.Prelude.{ℕ, List, Option, option_map}
use Rattle.vax_table.specs.declared.forms.Form.{Form}
use Rattle.vax_table.specs.InstructionSet.{instruction_entry_of}

-- the operands of an instruction
pub record OpcodeEntry : Type 0 where
  pub operands : List Form

abbrev pub plain : List Form → OpcodeEntry
plain forms = record { operands = forms }

-- what the table says of an opcode, None where no instruction has it
unfoldable pub row_of : ℕ → Option OpcodeEntry
row_of n = option_map (λ e. record { operands = e.operands }) (instruction_entry_of n)
