-- Worked examples of shifts and rotations in widths that no instruction has, by computation. In a PSW the codes N, Z, V
-- and C are 8, 4, 2 and 1. Numbers are hexadecimal in the comments.
use Rattle.std.specs.Prelude.{◌≡◌, refl, None}
use Rattle.vv_base.specs.declared.width.Width.TheVariants.{Byte, Long, Quad, Word}
use Rattle.vax_table.specs.Arithmetic.{alu_of, rotated}
use Rattle.vax_table.specs.declared.answer.AluOp.TheVariants.{Ash, Rot}

-- the highest bit comes in at the low end of its own width
pub rotations :
    (rotated Byte 0x81 1 ≡ 0x03)
    × (rotated Word 0x8001 1 ≡ 0x0003)
    × (rotated Long 0x80000001 1 ≡ 0x00000003)
    × (rotated Quad 0x8000000000000001 1 ≡ 0x0000000000000003)
    -- by more bits than a byte and a word have
    × (rotated Byte 0x81 0x1c ≡ 0x18)
    × (rotated Word 0x8001 0x1c ≡ 0x1800)
    × (rotated Quad 0x8000000000000001 0x1c ≡ 0x18000000)
    -- by -1, to the right
    × (alu_of Rot 0xff 0x01 Byte 1 ≡ record { value = 0x80; psw = 9; trap = None })
    × (alu_of Rot 0xff 0x0001 Word 1 ≡ record { value = 0x8000; psw = 9; trap = None })
    × (alu_of Rot 0xff 1 Quad 1 ≡ record { value = 0x8000000000000000; psw = 9; trap = None })
unfolding alu_of
rotations = (refl, refl, refl, refl, refl, refl, refl, refl, refl, refl)

pub shifts :
    -- 40 times 2 is 80, which is no signed byte; 4000 times 2 is no signed word; C goes
    (alu_of Ash 1 0x40 Byte 1 ≡ record { value = 0x80; psw = 0x0a; trap = None })
    × (alu_of Ash 1 0x4000 Word 1 ≡ record { value = 0x8000; psw = 0x0a; trap = None })
    -- 40 times 2 in a word fits
    × (alu_of Ash 1 0x40 Word 1 ≡ record { value = 0x80; psw = 0; trap = None })
    -- -7F by 2 is -40, rounded down; -8000 by 10 is -800
    × (alu_of Ash 0xff 0x81 Byte 0 ≡ record { value = 0xc0; psw = 8; trap = None })
    × (alu_of Ash 0xfc 0x8000 Word 0 ≡ record { value = 0xf800; psw = 8; trap = None })
    -- all bits go
    × (alu_of Ash 8 0x81 Byte 0 ≡ record { value = 0; psw = 6; trap = None })
    × (alu_of Ash 0xf0 0x8000 Word 0 ≡ record { value = 0xffff; psw = 8; trap = None })
unfolding alu_of
shifts = (refl, refl, refl, refl, refl, refl, refl)
