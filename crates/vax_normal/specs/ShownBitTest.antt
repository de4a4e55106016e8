-- Worked examples of what BBS and BBC of memory in normal form do, by computation.
use Rattle.std.specs.Prelude.{◌≡◌, ℕ, ◌<◌, Bool, true, false, List, [], ◌∷◌, refl}
use Rattle.vax_normal.specs.declared.shape.Number.{Number}
use Rattle.vax_normal.specs.BitTest.{bit_address, bit_tested_in}
use Rattle.vax_normal.specs.declared.bit_test.BitTest.{BitTest}

-- R0 to R15, by R2
abbrev registers : ℕ → List ℕ
registers position = 0 ∷ 0x3000 ∷ position ∷ 3 ∷ 4 ∷ 5 ∷ 6 ∷ 7 ∷ 8 ∷ 9 ∷ 10 ∷ 11 ∷ 12 ∷ 13 ∷ 14 ∷ 0x200 ∷ []

abbrev whole : (n offset : ℕ) → n < 16 → Number
whole n offset h = record { register = n; mask = 0xFFFFFFFF; offset = offset; there = h }

-- of four bytes, to 0x220: BBS R2,4(R1) where on is true, and BBC where it isn't
abbrev test : Bool → 1 < 16 → 2 < 16 → BitTest
test on h k = record { on = on; position = whole 2 0 k; base = whole 1 4 h; jump = 0x20; length = 4 }

pub bit_7 : (h : 1 < 16) (k : 2 < 16) → bit_address (test true h k) (registers 7) ≡ 0x3004
bit_7 h k = refl

pub bit_8 : (h : 1 < 16) (k : 2 < 16) → bit_address (test true h k) (registers 8) ≡ 0x3005
bit_8 h k = refl

-- a position below 0 is before the base
pub bit_before : (h : 1 < 16) (k : 2 < 16) → bit_address (test true h k) (registers 0xFFFFFFFF) ≡ 0x3003
bit_before h k = refl

pub bit_before_that : (h : 1 < 16) (k : 2 < 16) → bit_address (test true h k) (registers 0xFFFFFFF7) ≡ 0x3002
bit_before_that h k = refl

-- position 8 is bit 0 of its byte, and -1 bit 7
abbrev went_on_to : ℕ → ℕ → List ℕ
went_on_to position pc = 0 ∷ 0x3000 ∷ position ∷ 3 ∷ 4 ∷ 5 ∷ 6 ∷ 7 ∷ 8 ∷ 9 ∷ 10 ∷ 11 ∷ 12 ∷ 13 ∷ 14 ∷ pc ∷ []

pub branches : (h : 1 < 16) (k : 2 < 16) → bit_tested_in (test true h k) 0x01 (registers 8) ≡ went_on_to 8 0x220
branches h k = refl

pub goes_on : (h : 1 < 16) (k : 2 < 16) → bit_tested_in (test true h k) 0xFE (registers 8) ≡ went_on_to 8 0x204
goes_on h k = refl

pub branches_before : (h : 1 < 16) (k : 2 < 16) → bit_tested_in (test false h k) 0x7F (registers 0xFFFFFFFF) ≡ went_on_to 0xFFFFFFFF 0x220
branches_before h k = refl

pub goes_on_before : (h : 1 < 16) (k : 2 < 16) → bit_tested_in (test false h k) 0x80 (registers 0xFFFFFFFF) ≡ went_on_to 0xFFFFFFFF 0x204
goes_on_before h k = refl
