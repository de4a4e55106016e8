-- Worked examples of what MOVPSL to a register in normal form does, by computation.
use Rattle.std.specs.Prelude.{◌≡◌, ◌<◌, ℕ, List, [], ◌∷◌, refl}
use Rattle.vax_normal.specs.StatusMove.{status_finished}

-- R0 to R15, by R3 and R14
abbrev registers : (third fourteenth pc : ℕ) → List ℕ
registers third fourteenth pc = 0 ∷ 1 ∷ 2 ∷ third ∷ 4 ∷ 5 ∷ 6 ∷ 7 ∷ 8 ∷ 9 ∷ 10 ∷ 11 ∷ 12 ∷ 13 ∷ fourteenth ∷ pc ∷ []

-- MOVPSL R3, of two bytes, in user mode with the codes N and C
pub to_a_register : (h : 3 < 15) → status_finished (record { register = 3; length = 2; there = h }) 0x03C00009 (registers 0x33333333 0x7000 0x200) ≡ registers 0x03C00009 0x7000 0x202
to_a_register h = refl

-- the stack pointer is a register like the others
pub to_the_stack_pointer : (h : 14 < 15) → status_finished (record { register = 14; length = 2; there = h }) 0x041F0000 (registers 3 0x7000 0x200) ≡ registers 3 0x041F0000 0x202
to_the_stack_pointer h = refl

-- PC goes on modulo 2^32
pub at_the_highest_address : (h : 3 < 15) → status_finished (record { register = 3; length = 2; there = h }) 0 (registers 3 0x7000 0xFFFFFFFE) ≡ registers 0 0x7000 0
at_the_highest_address h = refl
