-- A worked example of what the operands of PROBER or PROBEW in normal form are, by computation.
use Rattle.std.specs.Prelude.{◌<◌, ℕ, List, [], ◌∷◌, refl}
use Rattle.vax_arch.specs.declared.mode.Intent.TheVariants.{Write}
use Rattle.vax_table.specs.declared.act.Dest.TheVariants.{Nowhere}
use Rattle.vax_table.specs.declared.evaluation.Operands.{Operands}
use Rattle.vax_normal.specs.declared.shape.Number.{Number}
use Rattle.vax_normal.specs.ProbeTest.{AreProbed}
use Rattle.vax_normal.specs.declared.rarer_shape.ProbeTest.{ProbeTest}

-- R0 to R15, by PC
abbrev registers : ℕ → List ℕ
registers pc = 0 ∷ 0x3000 ∷ 0x50004 ∷ 3 ∷ 4 ∷ 5 ∷ 6 ∷ 7 ∷ 8 ∷ 9 ∷ 10 ∷ 11 ∷ 12 ∷ 13 ∷ 14 ∷ pc ∷ []

abbrev number : (n mask offset : ℕ) → n < 16 → Number
number n mask offset h = record { register = n; mask = mask; offset = offset; there = h }

-- PROBEW #3,R2,8(R1), of five bytes: how many bytes is the lowest word of R2
abbrev test : 0 < 16 → 1 < 16 → 2 < 16 → ProbeTest
test z h k = record { intent = Write; mode = number 0 0 3 z; bytes = number 2 0xFFFF 0 k; base = number 1 0xFFFFFFFF 8 h; length = 5 }

abbrev operands : Operands
operands = record { values = 3 ∷ 4 ∷ 0x3008 ∷ 0 ∷ []; dests = Nowhere ∷ Nowhere ∷ Nowhere ∷ Nowhere ∷ []; r = registers 0x205 }

pub user_and_four_bytes : (z : 0 < 16) (h : 1 < 16) (k : 2 < 16) → AreProbed (test z h k) (registers 0x200) operands
user_and_four_bytes z h k = (refl, refl, refl, refl)
