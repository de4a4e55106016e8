-- A name and an opcode never part: what has the name of an opcode is it, and every instruction has a name.
use Rattle.std.specs.Prelude.{◌≡◌, ℕ, ◌<◌, List, Some, is_some}
use Rattle.vax_table.specs.Rows.{row_of}
use Rattle.vasm_text.specs.Mnemonics.{mnemonic_of, opcode_of}

pub record AreApart : Type 0 where
  pub back : (n : ℕ) (name : List ℕ) → n < 256 → mnemonic_of n ≡ Some name → opcode_of name ≡ Some n
  pub every : (n : ℕ) → n < 256 → is_some (mnemonic_of n) ≡ is_some (row_of n)
