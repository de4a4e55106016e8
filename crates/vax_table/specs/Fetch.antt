-- An instruction's bytes, fetched one by one until they decide (VAX Architecture Reference Manual: instruction format).
use Rattle.std.specs.Prelude.{ℕ, zero, suc, ◌+◌, List, [], ◌∷◌, ◌++◌, length}
use Rattle.vax_arch.specs.declared.mode.Intent.TheVariants.{Read}
use Rattle.vax_table.specs.Interaction.{Interaction, Done, Refuse, Touch}
use Rattle.vax_table.specs.Reading.{Decoding, Whole, Short, Unknown, Reserved, decoded_at}
use Rattle.vax_table.specs.Spelling.{Instruction}
use Rattle.vax_table.specs.declared.act.Refusal.TheVariants as refusals

-- how it goes on after the bytes fetched so far, by what is at their front
abbrev pub by_decoding : (List ℕ → Interaction Instruction) → ℕ → List ℕ → Decoding → Interaction Instruction
by_decoding more at bytes (Whole d rest) = Done d
by_decoding more at bytes Short = Touch Read (at + length bytes) 1 (λ b. more (bytes ++ b ∷ []))
by_decoding more at bytes Unknown = Refuse refusals.Instruction
by_decoding more at bytes Reserved = Refuse refusals.Addressing

-- the instruction at an address, of which these bytes are fetched already, by at most n tries to decode them
unfoldable pub decided : ℕ → ℕ → List ℕ → Interaction Instruction
decided zero at bytes = Refuse refusals.Instruction
decided (suc looks) at bytes = by_decoding (decided looks at) at bytes (decoded_at bytes)

-- The instruction at an address. That 22 tries decide is a law (`IsShort`: no spelling has more than 21 bytes); after them it
-- would be refused.
unfoldable pub fetched : ℕ → Interaction Instruction
fetched at = decided 22 at []
