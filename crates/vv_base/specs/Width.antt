-- The widths of integer operands, and what a number of a width stands for
-- (VAX Architecture Reference Manual, data types: byte, word, longword, quadword).
use Rattle.std.specs.Prelude.{ℕ, ◌-◌, ◌%◌, ◌^◌, nat_lt, ℤ, pos, ◌-ℤ◌, if◌then◌else◌}
use Rattle.vv_base.specs.declared.width.Width.{Width}
use Rattle.vv_base.specs.declared.width.Width.TheVariants.{Byte, Word, Long, Quad}

-- the bytes of a width
abbrev pub size_of : Width → ℕ
size_of Byte = 1
size_of Word = 2
size_of Long = 4
size_of Quad = 8

-- the bits of a width
abbrev pub bits_of : Width → ℕ
bits_of Byte = 8
bits_of Word = 16
bits_of Long = 32
bits_of Quad = 64

-- the low bits of a number
abbrev pub low : Width → ℕ → ℕ
low w n = n % 2 ^ bits_of w

-- the two's complement value of the low bits of a number
abbrev pub signed_of : Width → ℕ → ℤ
signed_of w n = if nat_lt (low w n) (2 ^ (bits_of w - 1)) then pos (low w n) else pos (low w n) -ℤ pos (2 ^ bits_of w)
