-- Numbers and registers in a text: decimal digits without a needless zero, or `^X` and 1 to 16 digits of
-- base 16 in capitals; R0 to R15, of which R12 to R15 are also called AP, FP, SP and PC.
use Rattle.std.specs.List.{list_all}
use Rattle.std.specs.Prelude.{ℕ, ◌+◌, ◌-◌, ◌*◌, ◌^◌, List, [], ◌∷◌, length, take, drop, codes, bytes_eq, Bool, nat_lt, nat_le, ◌&&◌, ◌||◌, if◌then◌else◌, Option, Some, None}
use Rattle.vv_base.specs.Digits.{decimal_of, is_digit}
use Rattle.vasm_text.specs.Cutting.{◌>>=◌}

abbrev pub is_hex_digit : ℕ → Bool
is_hex_digit b = is_digit b || (nat_le 0x41 b && nat_le b 0x46)

abbrev pub hex_value : ℕ → ℕ
hex_value b = if nat_le b 57 then b - 48 else b - 55

-- the number that digits of base 16 stand for, after those read before
abbrev pub hex_from : ℕ → List ℕ → ℕ
hex_from so_far [] = so_far
hex_from so_far (d ∷ digits) = hex_from (16 * so_far + hex_value d) digits

abbrev pub hex_of : List ℕ → Option ℕ
hex_of digits = if nat_le 1 (length digits) && nat_le (length digits) 16 && list_all is_hex_digit digits then Some (hex_from 0 digits) else None

-- the number that a text is
unfoldable pub number_in : List ℕ → Option ℕ
number_in text = if bytes_eq (take 2 text) (codes "^X") then hex_of (drop 2 text) else decimal_of text (2 ^ 64 - 1)

abbrev pub if_below : ℕ → ℕ → Option ℕ
if_below limit n = if nat_lt n limit then Some n else None

-- the number, where it fits in `size` bytes
unfoldable pub field_in : ℕ → List ℕ → Option ℕ
field_in size text = number_in text >>= if_below (256 ^ size)

unfoldable pub register_in : List ℕ → Option ℕ
register_in text =
    if bytes_eq text (codes "AP") then Some 12 else
    if bytes_eq text (codes "FP") then Some 13 else
    if bytes_eq text (codes "SP") then Some 14 else
    if bytes_eq text (codes "PC") then Some 15 else
    if bytes_eq (take 1 text) (codes "R") then decimal_of (drop 1 text) 15 else None

-- a register other than PC
abbrev pub not_pc : Option ℕ → Option ℕ
not_pc reg = reg >>= if_below 15
