-- Worked examples of what BSBB, BSBW and RSB in normal form do, by computation.
use Rattle.std.specs.Prelude.{◌≡◌, ℕ, List, [], ◌∷◌, refl}
use Rattle.vv_base.specs.declared.width.Width.TheVariants.{Long}
use Rattle.vax_table.specs.Effects.{store}
use Rattle.vax_normal.specs.Subroutine.{called, return_finished}
use Rattle.vax_normal.specs.declared.subroutine.Call.{Call}

-- R0 to R15, by SP
abbrev registers : ℕ → List ℕ
registers sp = 0 ∷ 1 ∷ 2 ∷ 3 ∷ 4 ∷ 5 ∷ 6 ∷ 7 ∷ 8 ∷ 9 ∷ 10 ∷ 11 ∷ 12 ∷ 13 ∷ sp ∷ 0x200 ∷ []

-- BSBB to 0x212: the next instruction's address goes below SP, and the codes stay
abbrev forward : Call
forward = record { jump = 0x12; length = 2 }

pub forward_registers : (called forward (registers 0x4000) 5).r ≡ 0 ∷ 1 ∷ 2 ∷ 3 ∷ 4 ∷ 5 ∷ 6 ∷ 7 ∷ 8 ∷ 9 ∷ 10 ∷ 11 ∷ 12 ∷ 13 ∷ 0x3FFC ∷ 0x212 ∷ []
forward_registers = refl

pub forward_stores : (called forward (registers 0x4000) 5).writes ≡ store 0x3FFC Long 0x202 ∷ []
forward_stores = refl

pub forward_codes : (called forward (registers 0x4000) 5).psw ≡ 5
forward_codes = refl

-- BSBW backward to 0x1F4, of three bytes, with SP at 0
abbrev backward : Call
backward = record { jump = 0xFFFFFFF4; length = 3 }

pub backward_registers : (called backward (registers 0) 0).r ≡ 0 ∷ 1 ∷ 2 ∷ 3 ∷ 4 ∷ 5 ∷ 6 ∷ 7 ∷ 8 ∷ 9 ∷ 10 ∷ 11 ∷ 12 ∷ 13 ∷ 0xFFFFFFFC ∷ 0x1F4 ∷ []
backward_registers = refl

pub backward_stores : (called backward (registers 0) 0).writes ≡ store 0xFFFFFFFC Long 0x203 ∷ []
backward_stores = refl

-- RSB: the longword at SP is popped into PC
pub returned : return_finished 0x202 (registers 0x3FFC) ≡ 0 ∷ 1 ∷ 2 ∷ 3 ∷ 4 ∷ 5 ∷ 6 ∷ 7 ∷ 8 ∷ 9 ∷ 10 ∷ 11 ∷ 12 ∷ 13 ∷ 0x4000 ∷ 0x202 ∷ []
returned = refl

pub returned_over_the_end : return_finished 0x203 (registers 0xFFFFFFFC) ≡ 0 ∷ 1 ∷ 2 ∷ 3 ∷ 4 ∷ 5 ∷ 6 ∷ 7 ∷ 8 ∷ 9 ∷ 10 ∷ 11 ∷ 12 ∷ 13 ∷ 0 ∷ 0x203 ∷ []
returned_over_the_end = refl
