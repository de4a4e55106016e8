-- Reading an instruction from the front of a list of bytes: what is there, that more is needed,
-- or that nothing can be there. It is how a processor that fetches byte by byte decides.
use Rattle.std.specs.Prelude.{◌≡◌, ℕ, ◌-◌, ◌+◌, ◌*◌, ◌/◌, ◌%◌, ◌<◌, nat_lt, ◌==◌, ◌&&◌, ◌||◌, List, [], ◌∷◌, ◌++◌, length, take, drop, Option, Some, None, Bool, true, false, if◌then◌else◌}
use Rattle.vv_base.specs.declared.width.Width.{Width}
use Rattle.vv_base.specs.declared.width.Width.TheVariants.{Quad}
use Rattle.vv_base.specs.Width.{size_of}
use Rattle.vax_table.specs.declared.forms.Access.{Access}
use Rattle.vax_table.specs.declared.forms.Access.TheVariants.{Read, Address, Branch}
use Rattle.vax_table.specs.declared.forms.Form.{Form}
use Rattle.vax_table.specs.declared.decoded.Spec.{Spec}
pub use Rattle.vax_table.specs.Operand.{displacement_size}
use Rattle.vax_table.specs.Rows.{OpcodeEntry, row_of}
use Rattle.vax_table.specs.Spelling.{unindexed, Instruction, Spells, SpellsNone, HasOpcode, AreBytes}

-- the number that bytes are, the lowest first
abbrev pub number_of : List ℕ → ℕ
number_of [] = 0
number_of (b ∷ bs) = b + 256 * number_of bs

abbrev pub is_read : Access → Bool
is_read Read = true
is_read _ = false

abbrev pub is_address : Access → Bool
is_address Address = true
is_address _ = false

abbrev pub is_branch : Access → Bool
is_branch Branch = true
is_branch _ = false

abbrev pub is_quad : Width → Bool
is_quad Quad = true
is_quad _ = false

-- what is at the front of bytes and the bytes after it, a need of more bytes, or a reserved form
pub data AtFront (A : Type 0) : Type 0 where
  Got : A → List ℕ → AtFront A
  More : AtFront A
  Bad : AtFront A

-- one after another
abbrev pub then_read : {A B : Type 0} → AtFront A → (A → List ℕ → AtFront B) → AtFront B
then_read (Got a rest) f = f a rest
then_read More f = More
then_read Bad f = Bad

-- a value of k bytes
abbrev pub valued_at : ℕ → ℕ → ℕ → List ℕ → AtFront Spec
valued_at mode reg k bytes = if nat_lt (length bytes) k then More else Got (unindexed mode reg (number_of (take k bytes))) (drop k bytes)

-- a register other than PC
abbrev pub named_at : ℕ → ℕ → List ℕ → AtFront Spec
named_at mode reg bytes = if reg == 15 then Bad else Got (unindexed mode reg 0) bytes

-- a specifier of the modes 5 to F: form, mode, register, and the bytes after the first
unfoldable pub specifier_by : Form → ℕ → ℕ → List ℕ → AtFront Spec
specifier_by form mode reg bytes =
    if mode == 5 then (if is_address form.access || (is_quad form.width && reg == 14) then Bad else named_at 5 reg bytes) else
    if mode == 6 then named_at 6 reg bytes else
    if mode == 7 then named_at 7 reg bytes else
    if mode == 8 then (if reg == 15 then valued_at 8 15 (size_of form.width) bytes else Got (unindexed 8 reg 0) bytes) else
    if mode == 9 then (if reg == 15 then valued_at 9 15 4 bytes else Got (unindexed 9 reg 0) bytes) else
    valued_at mode reg (displacement_size mode) bytes

-- a specifier without index, by its first byte
unfoldable pub specifier_at : Form → ℕ → List ℕ → AtFront Spec
specifier_at form b bytes =
    if nat_lt (b / 16) 4 then (if is_read form.access then Got (unindexed 0 0 b) bytes else Bad) else
    if b / 16 == 4 then Bad else specifier_by form (b / 16) (b % 16) bytes

-- a specifier after an index of register x
unfoldable pub indexed_at : Form → ℕ → List ℕ → AtFront Spec
indexed_at form x [] = More
indexed_at form x (b ∷ bytes) = if nat_lt (b / 16) 6 then Bad else if b == 0x8f then Bad else then_read (specifier_at form b bytes) (λ s rest. Got (record s { index = Some x }) rest)

unfoldable pub operand_at : Form → List ℕ → AtFront Spec
operand_at form [] = More
operand_at form (b ∷ bytes) =
    if is_branch form.access then valued_at 16 0 (size_of form.width) (b ∷ bytes) else
    if b / 16 == 4 then (if b % 16 == 15 then Bad else indexed_at form (b % 16) bytes) else
    specifier_at form b bytes

abbrev pub operands_at : List Form → List ℕ → AtFront (List Spec)
operands_at [] bytes = Got [] bytes
operands_at (f ∷ fs) bytes = then_read (operand_at f bytes) (λ s rest. then_read (operands_at fs rest) (λ ss more. Got (s ∷ ss) more))

-- a whole instruction and the bytes after it, bytes that begin one, an opcode that no instruction
-- has, or a reserved form
pub data Decoding : Type 0 where
  Whole : Instruction → List ℕ → Decoding
  Short : Decoding
  Unknown : Decoding
  Reserved : Decoding

abbrev pub answer_of : ℕ → List ℕ → AtFront (List Spec) → Decoding
answer_of opcode bytes (Got ss rest) = Whole (record { opcode = opcode; wait = false; length = 1 + (length bytes - length rest); specs = ss }) rest
answer_of opcode bytes More = Short
answer_of opcode bytes Bad = Reserved

abbrev pub by_row : ℕ → List ℕ → Option OpcodeEntry → Decoding
by_row opcode bytes None = Unknown
by_row opcode bytes (Some e) = answer_of opcode bytes (operands_at e.operands bytes)

-- after FD
abbrev pub wait_at : List ℕ → Decoding
wait_at [] = Short
wait_at (c ∷ cs) = if c == 1 then Whole (record { opcode = 0xfd; wait = true; length = 2; specs = [] }) cs else Unknown

unfoldable pub decoded_at : List ℕ → Decoding
decoded_at [] = Short
decoded_at (b ∷ bs) = if b == 0xfd then wait_at bs else by_row b bs (row_of b)

-- what an answer says of the bytes, in terms of spelling alone
abbrev pub IsAnswerFor : List ℕ → Decoding → Type 0
IsAnswerFor b (Whole d rest) = (front : List ℕ) × (b ≡ front ++ rest) × Spells front d
IsAnswerFor b Short = (tail : List ℕ) × (d : Instruction) × (0 < length tail) × Spells (b ++ tail) d
IsAnswerFor b Unknown = SpellsNone b × (HasOpcode b → ⊥)
IsAnswerFor b Reserved = SpellsNone b × HasOpcode b

-- reading is exact: each answer is so, and what is spelled is read, whatever follows
pub record IsExact : Type 0 where
  pub tells : (b : List ℕ) → AreBytes b → IsAnswerFor b (decoded_at b)
  pub reads : (front rest : List ℕ) (d : Instruction) → Spells front d → decoded_at (front ++ rest) ≡ Whole d rest
