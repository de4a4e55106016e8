-- Worked examples of what CLRQ and MOVQ in normal form do, by computation.
use Rattle.std.specs.Prelude.{◌≡◌, ◌≢◌, ℕ, ◌<◌, List, [], ◌∷◌, Some, None, refl}
use Rattle.vv_base.specs.declared.width.Width.TheVariants.{Quad}
use Rattle.vax_table.specs.Arithmetic.{alu_of}
use Rattle.vax_table.specs.Effects.{store}
use Rattle.vax_normal.specs.QuadMove.{quad_from, quad_moved}
use Rattle.vax_normal.specs.declared.shape.QuadMove.{QuadMove}
use Rattle.vax_normal.specs.declared.shape.QuadSource.{QuadSource}
use Rattle.vax_normal.specs.declared.shape.QuadSource.TheVariants.{Constant, Registers, Read}
use Rattle.vax_normal.specs.declared.shape.Reach.{Reach}

-- R0 to R15
abbrev registers : List ℕ
registers = 0 ∷ 0x3000 ∷ 0x3800 ∷ 0x12345678 ∷ 4 ∷ 5 ∷ 6 ∷ 7 ∷ 8 ∷ 9 ∷ 10 ∷ 11 ∷ 12 ∷ 13 ∷ 14 ∷ 0x200 ∷ []

-- the register of this number has the low longword, the next one the other
pub pair : (h : 3 < 14) → quad_from (Registers (record { register = 3; there = h })) 0 registers ≡ 0x412345678
pair h = refl

pub is_read : quad_from Read 0x8000000000000000 registers ≡ 0x8000000000000000
is_read = refl

-- a register that a form may put to
abbrev IsPair : ℕ → Type 0
IsPair n = n ≢ 14

-- MOVQ of a quadword to R12 and R13: its sign is that of the higher longword; V goes, and C stays
abbrev to_registers : QuadSource → IsPair 12 → QuadMove
to_registers x h = record { source = x; register = 12; reads = None; writes = None; length = 3; there = h; claims = tt }

pub moved : (h : IsPair 12) → (quad_moved (to_registers Read h) 0x8000000000000007 registers 3).r ≡ 0 ∷ 0x3000 ∷ 0x3800 ∷ 0x12345678 ∷ 4 ∷ 5 ∷ 6 ∷ 7 ∷ 8 ∷ 9 ∷ 10 ∷ 11 ∷ 7 ∷ 0x80000000 ∷ 14 ∷ 0x203 ∷ []
unfolding quad_moved alu_of
moved h = refl

pub moved_codes : (h : IsPair 12) → (quad_moved (to_registers Read h) 0x8000000000000007 registers 3).psw ≡ 9
unfolding quad_moved alu_of
moved_codes h = refl

-- a low longword that looks negative makes no N, and one of 0 no Z
pub low_codes : (h : IsPair 12) → (quad_moved (to_registers Read h) 0x80000000 registers 0).psw ≡ 0
unfolding quad_moved alu_of
low_codes h = refl

pub high_codes : (h : IsPair 12) → (quad_moved (to_registers Read h) 0x100000000 registers 0).psw ≡ 0
unfolding quad_moved alu_of
high_codes h = refl

-- CLRQ
pub cleared_codes : (h : IsPair 12) → (quad_moved (to_registers (Constant 0) h) 0 registers 8).psw ≡ 4
unfolding quad_moved alu_of
cleared_codes h = refl

-- MOVQ (R1)+,(R2)+: all eight bytes are stored at R2 as it was, and both go on by 8
abbrev reach : (n : ℕ) → n < 15 → Reach
reach n h = record { register = n; offset = 0; step = 8; width = Quad; there = h }

abbrev copy : IsPair 15 → 1 < 15 → 2 < 15 → QuadMove
copy z h k = record { source = Read; register = 15; reads = Some (reach 1 h); writes = Some (reach 2 k); length = 3; there = z; claims = refl }

pub copied : (z : IsPair 15) (h : 1 < 15) (k : 2 < 15) → (quad_moved (copy z h k) 0x100000002 registers 0).writes ≡ store 0x3800 Quad 0x100000002 ∷ []
unfolding quad_moved alu_of
copied z h k = refl

pub copied_on : (z : IsPair 15) (h : 1 < 15) (k : 2 < 15) → (quad_moved (copy z h k) 0x100000002 registers 0).r ≡ 0 ∷ 0x3008 ∷ 0x3808 ∷ 0x12345678 ∷ 4 ∷ 5 ∷ 6 ∷ 7 ∷ 8 ∷ 9 ∷ 10 ∷ 11 ∷ 12 ∷ 13 ∷ 14 ∷ 0x203 ∷ []
unfolding quad_moved alu_of
copied_on z h k = refl
