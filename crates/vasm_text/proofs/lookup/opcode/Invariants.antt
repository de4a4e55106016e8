use Rattle.std.proofs.Common.{◌≡◌, ℕ, ◌<◌, false}
use Rattle.vasm_text.specs.Mnemonics.{has_name, mnemonic_of}
use Rattle.vasm_text.proofs.lookup.opcode.Given as goal

abbrev pub invariant-loop-n : goal.invariant-loop-n
invariant-loop-n l = (k : ℕ) → k < l.n → has_name l.name (mnemonic_of k) ≡ false
