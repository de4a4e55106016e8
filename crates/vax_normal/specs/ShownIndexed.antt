-- Worked examples of what an operation with an index in normal form does, by computation.
use Rattle.std.specs.Prelude.{◌≡◌, ◌≢◌, ℕ, ◌<◌, List, [], ◌∷◌, refl}
use Rattle.vv_base.specs.declared.width.Width.{Width}
use Rattle.vv_base.specs.declared.width.Width.TheVariants.{Byte, Word, Long, Quad}
use Rattle.vax_arch.specs.declared.mode.Intent.TheVariants.{Read, Write}
use Rattle.vax_table.specs.Arithmetic.{alu_of}
use Rattle.vax_table.specs.Effects.{store}
use Rattle.vax_table.specs.declared.answer.AluOp.TheVariants.{Add}
use Rattle.vax_normal.specs.declared.shape.Source.{Source}
use Rattle.vax_normal.specs.Indexed.{indexed_address, indexed_done}
use Rattle.vax_normal.specs.declared.rarer_shape.Indexed.{Indexed}
use Rattle.vax_normal.specs.declared.rarer_shape.IndexedReach.{IndexedReach}

-- R0 to R15, by R2
abbrev registers : ℕ → List ℕ
registers index = 0x10 ∷ 0x3000 ∷ index ∷ 3 ∷ 4 ∷ 5 ∷ 6 ∷ 7 ∷ 8 ∷ 9 ∷ 10 ∷ 11 ∷ 12 ∷ 13 ∷ 14 ∷ 0x200 ∷ []

-- 8(R1)[R2]
abbrev reach : Width → 1 < 15 → 2 < 15 → IndexedReach
reach w h k = record { base = 1; index = 2; width = w; offset = 8; there = h; indexed = k }

pub of_bytes : (h : 1 < 15) (k : 2 < 15) → indexed_address (reach Byte h k) (registers 5) ≡ 0x300D
of_bytes h k = refl

pub of_words : (h : 1 < 15) (k : 2 < 15) → indexed_address (reach Word h k) (registers 5) ≡ 0x3012
of_words h k = refl

pub of_longwords : (h : 1 < 15) (k : 2 < 15) → indexed_address (reach Long h k) (registers 5) ≡ 0x301C
of_longwords h k = refl

-- an index of -1 steps back by the size
pub back_by_a_longword : (h : 1 < 15) (k : 2 < 15) → indexed_address (reach Long h k) (registers 0xFFFFFFFF) ≡ 0x3004
back_by_a_longword h k = refl

pub back_by_a_word : (h : 1 < 15) (k : 2 < 15) → indexed_address (reach Word h k) (registers 0xFFFFFFFF) ≡ 0x3006
back_by_a_word h k = refl

-- the bits over 32 of the index's product are lost
pub over_the_end : (h : 1 < 15) (k : 2 < 15) → indexed_address (reach Long h k) (registers 0x40000001) ≡ 0x300C
over_the_end h k = refl

-- ADDL2 R0,8(R1)[R2], of five bytes, where 0x20 is at its place, and ADDL3 R0,8(R1)[R2],R3, of six
abbrev by_register : (n : ℕ) → n < 16 → Source
by_register n h = record { number = record { register = n; mask = 0xFFFFFFFF; offset = 0; there = h }; read = 0; claimed = 0 }

abbrev in_memory : (read claimed : ℕ) → 0 < 16 → Source
in_memory read claimed h = record { number = record { register = 0; mask = 0; offset = 0; there = h }; read = read; claimed = claimed }

abbrev add_to : 0 < 16 → 1 < 15 → 2 < 15 → Long ≢ Quad → Indexed
add_to z h k narrow =
    record { op = Add; width = Long; first = by_register 0 z; second = in_memory 0 0xFFFFFFFF z; register = 15; intent = Write; reach = reach Long h k; length = 5; narrow = narrow }

abbrev add_from : 0 < 16 → 1 < 15 → 2 < 15 → Long ≢ Quad → Indexed
add_from z h k narrow =
    record { op = Add; width = Long; first = by_register 0 z; second = in_memory 0xFFFFFFFF 0 z; register = 3; intent = Read; reach = reach Long h k; length = 6; narrow = narrow }

pub adds_there : (z : 0 < 16) (h : 1 < 15) (k : 2 < 15) (narrow : Long ≢ Quad) → (indexed_done (add_to z h k narrow) 0x20 (registers 5) 0).writes ≡ store 0x301C Long 0x30 ∷ []
unfolding indexed_done alu_of
adds_there z h k narrow = refl

pub leaves_registers : (z : 0 < 16) (h : 1 < 15) (k : 2 < 15) (narrow : Long ≢ Quad) →
    (indexed_done (add_to z h k narrow) 0x20 (registers 5) 0).r ≡ 0x10 ∷ 0x3000 ∷ 5 ∷ 3 ∷ 4 ∷ 5 ∷ 6 ∷ 7 ∷ 8 ∷ 9 ∷ 10 ∷ 11 ∷ 12 ∷ 13 ∷ 14 ∷ 0x205 ∷ []
unfolding indexed_done
leaves_registers z h k narrow = refl

pub adds_to_register : (z : 0 < 16) (h : 1 < 15) (k : 2 < 15) (narrow : Long ≢ Quad) →
    (indexed_done (add_from z h k narrow) 0x20 (registers 5) 0).r ≡ 0x10 ∷ 0x3000 ∷ 5 ∷ 0x30 ∷ 4 ∷ 5 ∷ 6 ∷ 7 ∷ 8 ∷ 9 ∷ 10 ∷ 11 ∷ 12 ∷ 13 ∷ 14 ∷ 0x206 ∷ []
unfolding indexed_done alu_of
adds_to_register z h k narrow = refl

pub stores_nothing : (z : 0 < 16) (h : 1 < 15) (k : 2 < 15) (narrow : Long ≢ Quad) → (indexed_done (add_from z h k narrow) 0x20 (registers 5) 0).writes ≡ []
unfolding indexed_done
stores_nothing z h k narrow = refl
