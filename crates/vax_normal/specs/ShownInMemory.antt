-- Worked examples of what instructions in normal form do that refer to memory, by computation.
use Rattle.std.specs.Prelude.{◌≡◌, ◌≢◌, ℕ, ◌<◌, List, [], ◌∷◌, Some, None, refl, slice_index}
use Rattle.vv_base.specs.declared.width.Width.{Width}
use Rattle.vv_base.specs.declared.width.Width.TheVariants.{Byte, Long, Quad}
use Rattle.vax_table.specs.Arithmetic.{alu_of}
use Rattle.vax_table.specs.Effects.{store}
use Rattle.vax_table.specs.declared.answer.AluOp.TheVariants.{Add, Move}
use Rattle.vax_normal.specs.InMemory.{done_in_memory, reach_address, sourced_by, reach_stepped}
use Rattle.vax_normal.specs.declared.shape.InMemory.{InMemory}
use Rattle.vax_normal.specs.declared.shape.Number.{Number}
use Rattle.vax_normal.specs.declared.shape.Reach.{Reach}
use Rattle.vax_normal.specs.declared.shape.Source.{Source}

-- R0 to R15
abbrev registers : List ℕ
registers = 0 ∷ 0x3000 ∷ 0x3800 ∷ 0x12345678 ∷ 4 ∷ 5 ∷ 6 ∷ 7 ∷ 8 ∷ 9 ∷ 10 ∷ 11 ∷ 12 ∷ 13 ∷ 14 ∷ 0x200 ∷ []

abbrev reach : (n offset step : ℕ) (w : Width) → n < 15 → Reach
reach n offset step w h = record { register = n; offset = offset; step = step; width = w; there = h }

-- a displacement is added modulo 2 ^ 32; the address of an autodecrement is that after its step
pub displaced : (h : 3 < 15) → reach_address (reach 3 0xffffffff 0 Long h) registers ≡ 0x12345677
displaced h = refl

pub decremented : (h : 0 < 15) → reach_address (reach 0 0xfffffffc 0xfffffffc Long h) registers ≡ 0xfffffffc
decremented h = refl

pub decrement : (h : 0 < 15) → slice_index (reach_stepped (reach 0 0xfffffffc 0xfffffffc Long h) registers) 0 ≡ 0xfffffffc
decrement h = refl

-- and that of an autoincrement the one before it
pub incremented : (h : 1 < 15) → reach_address (reach 1 0 1 Byte h) registers ≡ 0x3000
incremented h = refl

pub increment : (h : 1 < 15) → slice_index (reach_stepped (reach 1 0 1 Byte h) registers) 1 ≡ 0x3001
increment h = refl

abbrev zero : 0 < 16 → Number
zero h = record { register = 0; mask = 0; offset = 0; there = h }

abbrev read : 0 < 16 → Source
read h = record { number = zero h; read = 0xffffffff; claimed = 0 }

abbrev claimed : 0 < 16 → Source
claimed h = record { number = zero h; read = 0; claimed = 0xffffffff }

abbrev constant : ℕ → 0 < 16 → Source
constant v h = record { number = record (zero h) { offset = v }; read = 0; claimed = 0 }

pub is_read : (h : 0 < 16) → sourced_by (read h) 7 9 registers ≡ 7
is_read h = refl

pub is_claimed : (h : 0 < 16) → sourced_by (claimed h) 7 9 registers ≡ 9
is_claimed h = refl

pub is_neither : (h : 0 < 16) → sourced_by (constant 63 h) 7 9 registers ≡ 63
is_neither h = refl

-- MOVB (R1)+,(R2)+: what is read is stored at R2 as it was, and both go on
abbrev copy : 0 < 16 → 1 < 15 → 2 < 15 → Byte ≢ Quad → InMemory
copy z h k g = record { op = Move; width = Byte; first = read z; second = constant 0 z; register = 15; reads = Some (reach 1 0 1 Byte h); writes = Some (reach 2 0 1 Byte k); length = 3; narrow = g; claims = refl }

pub copied : (z : 0 < 16) (h : 1 < 15) (k : 2 < 15) (g : Byte ≢ Quad) → (done_in_memory (copy z h k g) 0x41 0 registers 0).writes ≡ store 0x3800 Byte 0x41 ∷ []
unfolding done_in_memory alu_of
copied z h k g = refl

pub copied_on : (z : 0 < 16) (h : 1 < 15) (k : 2 < 15) (g : Byte ≢ Quad) →
    (done_in_memory (copy z h k g) 0x41 0 registers 0).r ≡ 0 ∷ 0x3001 ∷ 0x3801 ∷ 0x12345678 ∷ 4 ∷ 5 ∷ 6 ∷ 7 ∷ 8 ∷ 9 ∷ 10 ∷ 11 ∷ 12 ∷ 13 ∷ 14 ∷ 0x203 ∷ []
unfolding done_in_memory alu_of
copied_on z h k g = refl

-- INCL (R2): 1 and what is claimed, which is stored there; nothing is read, and 0xffffffff becomes 0 with Z and C
abbrev counted_up : 0 < 16 → 2 < 15 → Long ≢ Quad → InMemory
counted_up z k g = record { op = Add; width = Long; first = constant 1 z; second = claimed z; register = 15; reads = None; writes = Some (reach 2 0 0 Long k); length = 2; narrow = g; claims = refl }

pub around : (z : 0 < 16) (k : 2 < 15) (g : Long ≢ Quad) → (done_in_memory (counted_up z k g) 0 0xffffffff registers 0).writes ≡ store 0x3800 Long 0 ∷ []
unfolding done_in_memory alu_of
around z k g = refl

pub around_codes : (z : 0 < 16) (k : 2 < 15) (g : Long ≢ Quad) → (done_in_memory (counted_up z k g) 0 0xffffffff registers 0).psw ≡ 5
unfolding done_in_memory alu_of
around_codes z k g = refl

-- PUSHL of a register: it is stored below SP, which goes down to there; PUSHL SP pushes SP as it was, and PUSHAB B^4(SP) an
-- address by that
abbrev push : (n offset : ℕ) → n < 16 → 0 < 16 → 14 < 15 → Long ≢ Quad → InMemory
push n offset h z k g = record { op = Move; width = Long; first = record (constant 0 z) { number = record { register = n; mask = 0xffffffff; offset = offset; there = h } }; second = constant 0 z; register = 15; reads = None; writes = Some (reach 14 0xfffffffc 0xfffffffc Long k); length = 2; narrow = g; claims = refl }

pub pushed : (h : 3 < 16) (z : 0 < 16) (k : 14 < 15) (g : Long ≢ Quad) → (done_in_memory (push 3 0 h z k g) 0 0 registers 1).writes ≡ store 10 Long 0x12345678 ∷ []
unfolding done_in_memory alu_of
pushed h z k g = refl

pub pushed_down : (h : 3 < 16) (z : 0 < 16) (k : 14 < 15) (g : Long ≢ Quad) → slice_index (done_in_memory (push 3 0 h z k g) 0 0 registers 1).r 14 ≡ 10
unfolding done_in_memory alu_of
pushed_down h z k g = refl

pub pushed_itself : (h : 14 < 16) (z : 0 < 16) (k : 14 < 15) (g : Long ≢ Quad) → (done_in_memory (push 14 0 h z k g) 0 0 registers 1).writes ≡ store 10 Long 14 ∷ []
unfolding done_in_memory alu_of
pushed_itself h z k g = refl

pub pushed_address : (h : 14 < 16) (z : 0 < 16) (k : 14 < 15) (g : Long ≢ Quad) → (done_in_memory (push 14 4 h z k g) 0 0 registers 1).writes ≡ store 10 Long 18 ∷ []
unfolding done_in_memory alu_of
pushed_address h z k g = refl

-- PUSHAB of an address by PC: it is that of the instruction and an offset
pub pushed_relative : (h : 15 < 16) (z : 0 < 16) (k : 14 < 15) (g : Long ≢ Quad) → (done_in_memory (push 15 0x12 h z k g) 0 0 registers 1).writes ≡ store 10 Long 0x212 ∷ []
unfolding done_in_memory alu_of
pushed_relative h z k g = refl

-- MOVL (R1)+,R1: the result comes after the step
pub result_last : (z : 0 < 16) (h : 1 < 15) (g : Long ≢ Quad) →
    slice_index (done_in_memory (record { op = Move; width = Long; first = read z; second = constant 0 z; register = 1; reads = Some (reach 1 0 4 Long h); writes = None; length = 3; narrow = g; claims = tt }) 0x55 0 registers 0).r 1 ≡ 0x55
unfolding done_in_memory alu_of
result_last z h g = refl
