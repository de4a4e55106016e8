-- Branches, loops, CASE, and subroutines (VAX Architecture Reference Manual: control instructions).
use Rattle.std.specs.Prelude.{ℕ, ◌+◌, ◌-◌, ◌*◌, ◌/◌, ◌%◌, ◌^◌, Bool, true, false, not, nat_le, nat_lt, bit_and, bit_or, pos, int_lt, int_le, Option, Some, None, if◌then◌else◌, slice_index, slice_set}
use Rattle.std.specs.Int.{int_div_euclid}
use Rattle.vv_base.specs.declared.width.Width.{Width}
use Rattle.vv_base.specs.declared.width.Width.TheVariants.{Byte, Long}
use Rattle.vv_base.specs.Bits.{is_set}
use Rattle.vv_base.specs.Width.{signed_of}
use Rattle.vax_arch.specs.declared.mode.Intent.{Intent}
use Rattle.vax_arch.specs.declared.mode.Intent.TheVariants.{Read, Write}
use Rattle.vax_table.specs.Arithmetic.{alu_of, reduced}
use Rattle.vax_table.specs.Effects.{Effect, begun, dest_of, long_of, put, went_if, went_to}
use Rattle.vax_table.specs.Operand.{extended, plus}
use Rattle.vax_table.specs.Interaction.{Interaction, Done, Refuse, Touch, ◌>>=◌}
use Rattle.vax_table.specs.Stack.{push}
use Rattle.vax_table.specs.declared.act.Dest.{Dest}
use Rattle.vax_table.specs.declared.act.Dest.TheVariants.{Nowhere, Register, Memory}
use Rattle.vax_table.specs.declared.act.Refusal.TheVariants.{ReservedOperand}
use Rattle.vax_table.specs.declared.answer.Alu.{Alu}
use Rattle.vax_table.specs.declared.answer.AluOp.TheVariants.{Add, Sub, Cmp}
use Rattle.vax_table.specs.declared.evaluation.Operands.{Operands}

-- BSB and JSB push the next PC and go to their operand; RSB pops the PC
unfoldable pub called_subroutine : Operands → ℕ → Interaction Effect
called_subroutine o psw = push (slice_index o.r 15) (begun o psw) >>= λ e. Done (went_to (long_of o 0) e)

unfoldable pub left_subroutine : Operands → ℕ → Interaction Effect
left_subroutine o psw =
    let sp = slice_index o.r 14 in
    Touch Read sp 4 (λ pc. Done (went_to pc (record (begun o psw) { r = slice_set o.r 14 (plus sp 4) })))

-- C stays as it was
abbrev pub keeping_c : ℕ → ℕ → ℕ
keeping_c psw new = new / 2 * 2 + psw % 2

-- a loop's index becomes the result
abbrev pub looped : Width → Dest → Alu → Operands → ℕ → Effect
looped w dest x o psw = put dest w x.value (record (begun o psw) { psw = keeping_c psw x.psw; trap = x.trap })

-- signed comparisons in a width
abbrev pub is_less : Width → ℕ → ℕ → Bool
is_less w a b = int_lt (signed_of w a) (signed_of w b)

abbrev pub is_at_most : Width → ℕ → ℕ → Bool
is_at_most w a b = int_le (signed_of w a) (signed_of w b)

-- ACB: limit, add, index, branch
unfoldable pub added_and_compared : Width → Operands → ℕ → Effect
added_and_compared w o psw =
    let x = alu_of Add (long_of o 1) (long_of o 2) w psw in
    let taken = if is_at_most w 0 (long_of o 1) then is_at_most w x.value (long_of o 0) else is_at_most w (long_of o 0) x.value in
    went_if taken (long_of o 3) (looped w (dest_of o 2) x o psw)

-- AOB: limit, index, branch where the index is less than the limit, or is the limit where that counts too
unfoldable pub added_one : Bool → Operands → ℕ → Effect
added_one at_limit o psw =
    let x = alu_of Add 1 (long_of o 1) Long psw in
    let taken = if at_limit then is_at_most Long x.value (long_of o 0) else is_less Long x.value (long_of o 0) in
    went_if taken (long_of o 2) (looped Long (dest_of o 1) x o psw)

-- SOB: index, branch where the index is above zero, or is zero where that counts too
unfoldable pub subtracted_one : Bool → Operands → ℕ → Effect
subtracted_one at_zero o psw =
    let x = alu_of Sub 1 (long_of o 0) Long psw in
    let taken = if at_zero then is_at_most Long 0 x.value else is_less Long 0 x.value in
    went_if taken (long_of o 1) (looped Long (dest_of o 0) x o psw)

-- CASE: selector, base, limit. The table of words begins at the PC after the operands.
unfoldable pub cased : Width → Operands → ℕ → Interaction Effect
cased w o psw =
    let t = (alu_of Sub (long_of o 1) (long_of o 0) w psw).value in
    let limit = long_of o 2 in
    let table = slice_index o.r 15 in
    let e = record (begun o psw) { psw = (alu_of Cmp t limit w psw).psw } in
    if nat_le t limit
    then Touch Read (plus table (2 * t)) 2 (λ d. Done (went_to (plus table (extended 2 d)) e))
    else Done (went_to (plus table (2 * (limit + 1))) e)

-- a test that is to come out as given
abbrev pub comes_out : Bool → Bool → Bool
comes_out wanted is = if wanted then is else not is

-- BLBS and BLBC: the low bit of a longword
unfoldable pub branched_on_low_bit : Bool → Operands → ℕ → Effect
branched_on_low_bit on o psw = went_if (comes_out on (is_set (long_of o 0) 0)) (long_of o 1) (begun o psw)

-- a longword with bit k as given
abbrev pub with_bit : Bool → ℕ → ℕ → ℕ
with_bit true k n = bit_or n (2 ^ k)
with_bit false k n = bit_and n (2 ^ 32 - 1 - 2 ^ k)

-- the bit is made this one, if there is one
abbrev pub bit_made : Option Bool → Dest → Width → ℕ → ℕ → Effect → Effect
bit_made None dest w k n e = e
bit_made (Some b) dest w k n e = put dest w (with_bit b k n) e

abbrev pub bit_tested : Bool → ℕ → ℕ → ℕ → Effect → Effect
bit_tested on k n to e = went_if (comes_out on (is_set n k)) to e

-- a bit that may change is read with write intent
abbrev pub bit_intent : Option Bool → Intent
bit_intent None = Read
bit_intent (Some b) = Write

-- Positions are signed: the bit is position modulo 8 of the byte at base plus position divided by 8, rounded down.
abbrev pub byte_of_bit : ℕ → ℕ → ℕ
byte_of_bit base position = plus base (reduced Long (int_div_euclid (signed_of Long position) (pos 8)))

-- in a register the position must be 0 to 31
abbrev pub bit_in : Bool → Option Bool → Dest → ℕ → ℕ → Effect → Interaction Effect
bit_in on becomes Nowhere position to e = Done e
bit_in on becomes (Register n) position to e =
    if nat_lt position 32 then Done (bit_tested on position (slice_index e.r n) to (bit_made becomes (Register n) Long position (slice_index e.r n) e)) else Refuse ReservedOperand
bit_in on becomes (Memory base) position to e =
    let at = byte_of_bit base position in
    Touch (bit_intent becomes) at 1 (λ n. Done (bit_tested on (position % 8) n to (bit_made becomes (Memory at) Byte (position % 8) n e)))

-- BBS, BBC and those that change the bit: position, base, branch
unfoldable pub branched_on_bit : Bool → Option Bool → Operands → ℕ → Interaction Effect
branched_on_bit on becomes o psw = bit_in on becomes (dest_of o 1) (long_of o 0) (long_of o 2) (begun o psw)
