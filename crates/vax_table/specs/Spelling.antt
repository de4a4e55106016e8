-- What bytes spell an instruction: its opcode, and a specifier or a branch displacement for each operand (VAX Architecture
-- Reference Manual, operand specifier formats). Nothing spells a reserved form: a literal that is not only read, a register whose
-- address is taken, an index over a literal, a register or an index, PC as index. By this project's own choice (profile) these
-- are reserved too: PC in the modes register, register deferred and autodecrement, an index over an immediate, a quadword in R14
-- and PC.
use Rattle.std.specs.Prelude.{◌≡◌, ◌≢◌, ℕ, zero, suc, ◌+◌, ◌*◌, ◌/◌, ◌%◌, ◌^◌, ◌<◌, ◌≤◌, List, [], ◌∷◌, ◌++◌, length, take, Some, None, IsSome, Bool, true, false, ◌⊎◌}
use Rattle.vv_base.specs.declared.width.Width.TheVariants.{Quad}
use Rattle.vv_base.specs.Width.{size_of}
use Rattle.vax_table.specs.declared.forms.Access.TheVariants.{Read, Address, Branch}
use Rattle.vax_table.specs.declared.forms.Form.{Form}
use Rattle.vax_table.specs.declared.decoded.Spec.{Spec}
use Rattle.vax_table.specs.declared.decoded.Decoded.{Decoded}
use Rattle.vax_table.specs.Rows.{OpcodeEntry, row_of}

-- k bytes of a number, the lowest first
abbrev pub bytes_of : ℕ → ℕ → List ℕ
bytes_of zero n = []
bytes_of (suc k) n = n % 256 ∷ bytes_of k (n / 256)

-- an operand without index: mode, register, value
abbrev pub unindexed : ℕ → ℕ → ℕ → Spec
unindexed mode reg value = record { index = None; mode = mode; reg = reg; value = value }

-- the bytes of the displacement in each mode that has one
pub data Displaces : ℕ → ℕ → Type 0 where
  byte : Displaces 0xa 1
  byte_deferred : Displaces 0xb 1
  word : Displaces 0xc 2
  word_deferred : Displaces 0xd 2
  long : Displaces 0xe 4
  long_deferred : Displaces 0xf 4

-- A specifier without index, of an operand of the form: its bytes, and what they say. n is a register.
pub data Specifier (form : Form) (bytes : List ℕ) (s : Spec) : Type 0 where
  literal : (n : ℕ) → n < 64 → form.access ≡ Read → bytes ≡ n ∷ [] → s ≡ unindexed 0 0 n → Specifier form bytes s
  register : (n : ℕ) → n < 15 → form.access ≢ Address → (form.width ≡ Quad → n ≢ 14) → bytes ≡ (0x50 + n) ∷ [] → s ≡ unindexed 5 n 0 → Specifier form bytes s
  register_deferred : (n : ℕ) → n < 15 → bytes ≡ (0x60 + n) ∷ [] → s ≡ unindexed 6 n 0 → Specifier form bytes s
  autodecrement : (n : ℕ) → n < 15 → bytes ≡ (0x70 + n) ∷ [] → s ≡ unindexed 7 n 0 → Specifier form bytes s
  autoincrement : (n : ℕ) → n < 15 → bytes ≡ (0x80 + n) ∷ [] → s ≡ unindexed 8 n 0 → Specifier form bytes s
  immediate : (v : ℕ) → v < 256 ^ size_of form.width → bytes ≡ 0x8f ∷ bytes_of (size_of form.width) v → s ≡ unindexed 8 15 v → Specifier form bytes s
  autoincrement_deferred : (n : ℕ) → n < 15 → bytes ≡ (0x90 + n) ∷ [] → s ≡ unindexed 9 n 0 → Specifier form bytes s
  absolute : (v : ℕ) → v < 256 ^ 4 → bytes ≡ 0x9f ∷ bytes_of 4 v → s ≡ unindexed 9 15 v → Specifier form bytes s
  displacement : (mode k n v : ℕ) → Displaces mode k → n < 16 → v < 256 ^ k → bytes ≡ (16 * mode + n) ∷ bytes_of k v → s ≡ unindexed mode n v → Specifier form bytes s

-- An operand of the form: a specifier, one after an index, or a branch displacement. After an index
-- comes neither a literal, an index nor a register (all below 60), nor an immediate (8F).
pub data SpellsOperand (form : Form) (bytes : List ℕ) (s : Spec) : Type 0 where
  specifier : form.access ≢ Branch → Specifier form bytes s → SpellsOperand form bytes s
  indexed : form.access ≢ Branch → (x : ℕ) → x < 15 → (b : ℕ) (rest : List ℕ) (t : Spec) → 0x60 ≤ b → b ≢ 0x8f → Specifier form (b ∷ rest) t →
      bytes ≡ (0x40 + x) ∷ (b ∷ rest) → s ≡ record t { index = Some x } → SpellsOperand form bytes s
  branch : form.access ≡ Branch → (v : ℕ) → v < 256 ^ size_of form.width → bytes ≡ bytes_of (size_of form.width) v → s ≡ unindexed 16 0 v → SpellsOperand form bytes s

-- operands of the forms, one after the other
abbrev pub Operands : List Form → List ℕ → List Spec → Type 0
Operands [] bytes [] = bytes ≡ []
Operands (f ∷ fs) bytes (s ∷ ss) = (front : List ℕ) × (back : List ℕ) × (bytes ≡ front ++ back) × SpellsOperand f front s × Operands fs back ss
Operands [] bytes (s ∷ ss) = ⊥
Operands (f ∷ fs) bytes [] = ⊥

-- an instruction as its bytes specify it
pub record Instruction : Type 0 where
  pub opcode : ℕ
  pub wait : Bool
  pub length : ℕ
  pub specs : List Spec

-- a decoded instruction without where its operands lie in memory
abbrev pub view : Decoded → Instruction
view d = record { opcode = d.opcode; wait = d.wait; length = d.length; specs = d.specs.items }

-- Bytes spell an instruction: WAIT by FD 01, every other one by its opcode and its operands.
pub data Spells (bytes : List ℕ) (d : Instruction) : Type 0 where
  wait : bytes ≡ 0xfd ∷ (1 ∷ []) → d ≡ record { opcode = 0xfd; wait = true; length = 2; specs = [] } → Spells bytes d
  of_row : (e : OpcodeEntry) (opcode : ℕ) (rest : List ℕ) (specs : List Spec) → opcode < 256 → opcode ≢ 0xfd → row_of opcode ≡ Some e → Operands e.operands rest specs →
      bytes ≡ opcode ∷ rest → d ≡ record { opcode = opcode; wait = false; length = length bytes; specs = specs } → Spells bytes d

-- some bytes spell it
abbrev pub IsWellFormed : Instruction → Type 0
IsWellFormed d = (bytes : List ℕ) × Spells bytes d

-- no spelling is at the front of the bytes, and they begin none
pub record SpellsNone (b : List ℕ) : Type 0 where
  pub front : (front rest : List ℕ) (d : Instruction) → b ≡ front ++ rest → Spells front d → ⊥
  pub begin : (tail : List ℕ) (d : Instruction) → Spells (b ++ tail) d → ⊥

-- some instruction has the opcode bytes at the front: FD has 01 after it, every other opcode a row
abbrev pub HasOpcode : List ℕ → Type 0
HasOpcode [] = ⊥
HasOpcode (b ∷ bs) = ((b ≢ 0xfd) × IsSome (row_of b)) ⊎ ((b ≡ 0xfd) × (take 1 bs ≡ 1 ∷ []))

abbrev pub AreBytes : List ℕ → Type 0
AreBytes [] = Unit {0}
AreBytes (b ∷ bs) = (b < 256) × AreBytes bs

-- two spellings at the front of the same bytes are one: no spelling is a proper prefix of another
abbrev pub IsPrefixFree : Type 0
IsPrefixFree = (a b x y : List ℕ) (d e : Instruction) → Spells a d → Spells b e → a ++ x ≡ b ++ y → (a ≡ b) × (d ≡ e)

-- each instruction has at most one spelling
abbrev pub HasOneSpelling : Type 0
HasOneSpelling = (a b : List ℕ) (d : Instruction) → Spells a d → Spells b d → a ≡ b

-- a spelling has at most 21 bytes, as ACBL has with three indexed longword displacements
abbrev pub IsShort : Type 0
IsShort = (bytes : List ℕ) (d : Instruction) → Spells bytes d → length bytes ≤ 21
