-- What a decoder's answer says of the bytes, in terms of spelling alone.
use Rattle.std.specs.Prelude.{◌≡◌, ℕ, ◌<◌, List, ◌++◌, length}
use Rattle.vax_table.specs.declared.decoded.Decoded.{Decoded}
use Rattle.vax_table.specs.Spelling.{Instruction, view, Spells, SpellsNone, HasOpcode}
use Rattle.vax_table.specs.Reading.{Decoding, Whole, Short, Unknown, Reserved}
use Rattle.vax_decode.specs.declared.outcome.Decode.{Decode}
use Rattle.vax_decode.specs.declared.outcome.Decode.TheVariants.{Done, NeedMore, Fault}
use Rattle.vax_decode.specs.declared.outcome.DecodeFault.TheVariants.{Opcode, Addressing}

-- Done: a front of the bytes spells the instruction. NeedMore: the bytes are a proper front of a
-- spelling. Fault: neither, and no instruction or some instruction has the opcode bytes.
abbrev pub Decodes : List ℕ → Decode → Type 0
Decodes b (Done d) = (front : List ℕ) × (rest : List ℕ) × (b ≡ front ++ rest) × Spells front (view d)
Decodes b NeedMore = (tail : List ℕ) × (d : Instruction) × (0 < length tail) × Spells (b ++ tail) d
Decodes b (Fault Opcode) = SpellsNone b × (HasOpcode b → ⊥)
Decodes b (Fault Addressing) = SpellsNone b × HasOpcode b

abbrev pub IsWhole : Decoded → Decoding → Type 0
IsWhole d (Whole e rest) = e ≡ view d
IsWhole d Short = ⊥
IsWhole d Unknown = ⊥
IsWhole d Reserved = ⊥

-- the decoder answers what reading the list of bytes does
abbrev pub IsAnswer : Decode → Decoding → Type 0
IsAnswer (Done d) a = IsWhole d a
IsAnswer NeedMore a = a ≡ Short
IsAnswer (Fault Opcode) a = a ≡ Unknown
IsAnswer (Fault Addressing) a = a ≡ Reserved

-- a decoder's answer is the whole instruction
abbrev pub IsDecoded : Decode → Instruction → Type 0
IsDecoded (Done d) e = view d ≡ e
IsDecoded NeedMore e = ⊥
IsDecoded (Fault f) e = ⊥

-- what spells an instruction decodes to it, whatever follows
abbrev pub IsRoundTrip : Type 0
IsRoundTrip = (bytes rest : List ℕ) (d : Instruction) (r : Decode) → Spells bytes d → Decodes (bytes ++ rest) r → IsDecoded r d

-- what begins a spelling needs more bytes
abbrev pub WantsMore : Type 0
WantsMore = (b tail : List ℕ) (d : Instruction) (r : Decode) → 0 < length tail → Spells (b ++ tail) d → Decodes b r → r ≡ NeedMore
