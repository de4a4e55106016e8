-- An operand of an instruction, evaluated: its value, where its result goes, and what it does to the registers
-- (VAX Architecture Reference Manual, instruction formats and addressing modes: operand specifiers). Profile, this project's own
-- choices: a source is read as it is evaluated; an index register is read after the base's side effect; a modified operand is one
-- access with write intent. An immediate that is written, modified, or whose address or bits are taken, is the place in the
-- instruction.
use Rattle.std.specs.Prelude.{ℕ, ◌+◌, ◌-◌, ◌*◌, ◌%◌, ◌^◌, ◌&&◌, nat_lt, ◌==◌, List, Option, Some, None, if◌then◌else◌, slice_index, slice_set}
use Rattle.vv_base.specs.declared.width.Width.{Width}
use Rattle.vv_base.specs.declared.width.Width.TheVariants.{Byte, Word, Long, Quad}
use Rattle.vv_base.specs.Width.{size_of}
use Rattle.vax_arch.specs.declared.mode.Intent.TheVariants as intents
use Rattle.vax_table.specs.declared.act.Dest.{Dest}
use Rattle.vax_table.specs.declared.act.Dest.TheVariants.{Nowhere, Register, Memory}
use Rattle.vax_table.specs.declared.decoded.Spec.{Spec}
use Rattle.vax_table.specs.declared.forms.Access.{Access}
use Rattle.vax_table.specs.declared.forms.Access.TheVariants.{Read, Modify, Write, Address, Bits, Branch}
use Rattle.vax_table.specs.declared.evaluation.Evaluated.{Evaluated}
use Rattle.vax_table.specs.declared.evaluation.Place.{Place}
use Rattle.vax_table.specs.Interaction.{Interaction, Done, Touch, ◌>>=◌}

-- sums and differences of addresses are modulo 2 ^ 32
abbrev pub plus : ℕ → ℕ → ℕ
plus a b = (a + b) % 2 ^ 32

abbrev pub minus : ℕ → ℕ → ℕ
minus a b = (a + (2 ^ 32 - b)) % 2 ^ 32

-- the bytes of a displacement in the modes A to F
abbrev pub displacement_size : ℕ → ℕ
displacement_size mode = if nat_lt mode 12 then 1 else (if nat_lt mode 14 then 2 else 4)

-- a displacement of k bytes, sign-extended to 32 bits
abbrev pub extended : ℕ → ℕ → ℕ
extended k v = if nat_lt v (2 ^ (8 * k - 1)) then v else v + (2 ^ 32 - 2 ^ (8 * k))

abbrev pub place : ℕ → List ℕ → Place
place at r = record { at = at; r = r }

-- The address that a specifier without index gives for an operand of `size` bytes. R15 is after the specifier, so an immediate is
-- the operand's bytes in front of R15.
unfoldable pub base_address : ℕ → Spec → List ℕ → Interaction Place
base_address size s r =
    let x = slice_index r s.reg in
    if s.mode == 6 then Done (place x r) else  -- register deferred
    if s.mode == 7 then Done (place (minus x size) (slice_set r s.reg (minus x size))) else  -- autodecrement
    if s.mode == 8 && s.reg == 15 then Done (place (minus x size) r) else  -- immediate
    if s.mode == 8 then Done (place x (slice_set r s.reg (plus x size))) else  -- autoincrement
    if s.mode == 9 && s.reg == 15 then Done (place s.value r) else  -- absolute
    if s.mode == 9 then Touch intents.Read x 4 (λ a. Done (place a (slice_set r s.reg (plus x 4)))) else  -- autoincrement deferred
    let y = plus x (extended (displacement_size s.mode) s.value) in
    if s.mode % 2 == 0 then Done (place y r) else  -- displacement
    Touch intents.Read y 4 (λ a. Done (place a r))  -- displacement deferred

-- an index adds the size times its register, as that is after the base's side effect
abbrev pub indexed_by : ℕ → Option ℕ → Place → Place
indexed_by size None p = p
indexed_by size (Some x) p = place (plus p.at (size * slice_index p.r x)) p.r

unfoldable pub address_of : ℕ → Spec → List ℕ → Interaction Place
address_of size s r = base_address size s r >>= λ p. Done (indexed_by size s.index p)

-- the value of a register: its low bits; a quadword is Rn and Rn+1
abbrev pub register_value : Width → List ℕ → ℕ → ℕ
register_value Byte r n = slice_index r n % 2 ^ 8
register_value Word r n = slice_index r n % 2 ^ 16
register_value Long r n = slice_index r n
register_value Quad r n = slice_index r n + 2 ^ 32 * slice_index r (n + 1)

abbrev pub evaluated : ℕ → Dest → List ℕ → Evaluated
evaluated value dest r = record { value = value; dest = dest; r = r }

-- read: a literal, a register, an immediate, or memory
unfoldable pub read_operand : Width → Spec → List ℕ → Interaction Evaluated
read_operand w s r =
    if s.mode == 0 then Done (evaluated s.value Nowhere r) else
    if s.mode == 5 then Done (evaluated (register_value w r s.reg) Nowhere r) else
    if s.mode == 8 && s.reg == 15 then Done (evaluated s.value Nowhere r) else
    (address_of (size_of w) s r >>= λ p. Touch intents.Read p.at (size_of w) (λ v. Done (evaluated v Nowhere p.r)))

-- modify: a register, or memory by one access with write intent
unfoldable pub modified_operand : Width → Spec → List ℕ → Interaction Evaluated
modified_operand w s r =
    if s.mode == 5 then Done (evaluated (register_value w r s.reg) (Register s.reg) r) else
    (address_of (size_of w) s r >>= λ p. Touch intents.Write p.at (size_of w) (λ v. Done (evaluated v (Memory p.at) p.r)))

-- write: a register, or memory, which is translated for writing here
unfoldable pub written_operand : Width → Spec → List ℕ → Interaction Evaluated
written_operand w s r =
    if s.mode == 5 then Done (evaluated 0 (Register s.reg) r) else
    (address_of (size_of w) s r >>= λ p. Touch intents.Write p.at (size_of w) (λ v. Done (evaluated 0 (Memory p.at) p.r)))

-- address: the value is the address
unfoldable pub address_operand : Width → Spec → List ℕ → Interaction Evaluated
address_operand w s r = address_of (size_of w) s r >>= λ p. Done (evaluated p.at Nowhere p.r)

-- bits: the register or the address from which they are counted; their width is a byte
unfoldable pub bits_operand : Width → Spec → List ℕ → Interaction Evaluated
bits_operand w s r =
    if s.mode == 5 then Done (evaluated 0 (Register s.reg) r) else
    (address_of (size_of w) s r >>= λ p. Done (evaluated 0 (Memory p.at) p.r))

-- branch: the value is the target, the displacement from the next PC
unfoldable pub branch_operand : Width → Spec → List ℕ → Interaction Evaluated
branch_operand w s r = Done (evaluated (plus (slice_index r 15) (extended (size_of w) s.value)) Nowhere r)

-- by the access
abbrev pub by_access : Access → Width → Spec → List ℕ → Interaction Evaluated
by_access Read w s r = read_operand w s r
by_access Modify w s r = modified_operand w s r
by_access Write w s r = written_operand w s r
by_access Address w s r = address_operand w s r
by_access Bits w s r = bits_operand w s r
by_access Branch w s r = branch_operand w s r
