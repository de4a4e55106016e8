-- The instructions' names, by the instruction set.
use Rattle.std.specs.Option.{option_map_or}
use Rattle.std.specs.List.{position, range_with_len}
use Rattle.std.specs.Prelude.{ℕ, List, map, Option, option_map, bytes_eq, Bool, false}
use Rattle.vax_table.specs.InstructionSet.{instruction_entry_of}

-- the name of the instruction that an opcode begins, None where there is none
unfoldable pub mnemonic_of : ℕ → Option (List ℕ)
mnemonic_of n = option_map (λ e. e.name) (instruction_entry_of n)

abbrev pub has_name : List ℕ → Option (List ℕ) → Bool
has_name name known = option_map_or (λ n. bytes_eq n name) known false

-- the names of all opcodes in order
abbrev pub mnemonics : List (Option (List ℕ))
mnemonics = map mnemonic_of (range_with_len 0 256)

-- the opcode of the instruction that has the name, None where there is none
unfoldable pub opcode_of : List ℕ → Option ℕ
opcode_of name = position (has_name name) mnemonics
