-- What is found once of an operand, from its form and its specifier, and what the operand does by it. It is another way
-- to say what `operand_of` says: a choice of modes made beforehand.
use Rattle.std.specs.Prelude.{ℕ, ◌-◌, ◌%◌, ◌^◌, ◌<◌, ◌&&◌, ◌==◌, List, IfSome, if◌then◌else◌, slice_index, slice_set}
use Rattle.std.specs.Coded.{Unit-prop, le_prop}
use Rattle.std.proofs.Props.{props}
use Rattle.vv_base.specs.declared.width.Width.{Width}
use Rattle.vv_base.specs.Width.{size_of}
use Rattle.vax_arch.specs.declared.mode.Intent.TheVariants as intents
use Rattle.vax_table.specs.declared.act.Dest.TheVariants.{Nowhere, Register, Memory}
use Rattle.vax_table.specs.declared.decoded.Spec.{Spec}
use Rattle.vax_table.specs.declared.forms.Access.{Access}
use Rattle.vax_table.specs.declared.forms.Access.TheVariants as accesses
use Rattle.vax_table.specs.declared.forms.Form.{Form}
use Rattle.vax_table.specs.declared.evaluation.Evaluated.{Evaluated}
use Rattle.vax_table.specs.declared.evaluation.Place.{Place}
use Rattle.vax_table.specs.Operand.{evaluated, extended, indexed_by, minus, place, plus, register_value}
use Rattle.vax_table.specs.Reading.{displacement_size}
use Rattle.vax_table.specs.Interaction.{Interaction, Done, Touch, ◌>>=◌}
use Rattle.vax_operand.specs.declared.kind.Base.{Base}
use Rattle.vax_operand.specs.declared.kind.Base.TheVariants.{Deferred, Decrement, Increment, IncrementDeferred, Absolute, Displaced, DisplacedDeferred}
use Rattle.vax_operand.specs.declared.kind.Kind.{Kind}
use Rattle.vax_operand.specs.declared.kind.Kind.TheVariants.{Constant, ReadRegister, ModifyRegister, WriteRegister, BitsRegister, Branch, Read, Modify, Write, Address, Bits}

-- How a specifier without index gives an address, for an operand of `size` bytes. An immediate is the operand's bytes in front of
-- PC.
unfoldable pub base_of : ℕ → Spec → Base
base_of size s =
    if s.mode == 6 then Deferred else
    if s.mode == 7 then Decrement else
    if s.mode == 8 && s.reg == 15 then Displaced (2 ^ 32 - size) else
    if s.mode == 8 then Increment else
    if s.mode == 9 && s.reg == 15 then Absolute s.value else
    if s.mode == 9 then IncrementDeferred else
    let d = extended (displacement_size s.mode) s.value % 2 ^ 32 in
    if s.mode % 2 == 0 then Displaced d else DisplacedDeferred d

-- what an operand is of by its access, its width and its specifier
unfoldable pub kind_by : Access → Width → Spec → Kind
kind_by accesses.Read w s =
    if s.mode == 0 then Constant else
    if s.mode == 5 then ReadRegister else
    if s.mode == 8 && s.reg == 15 then Constant else Read (base_of (size_of w) s)
kind_by accesses.Modify w s = if s.mode == 5 then ModifyRegister else Modify (base_of (size_of w) s)
kind_by accesses.Write w s = if s.mode == 5 then WriteRegister else Write (base_of (size_of w) s)
kind_by accesses.Address w s = Address (base_of (size_of w) s)
kind_by accesses.Bits w s = if s.mode == 5 then BitsRegister else Bits (base_of (size_of w) s)
kind_by accesses.Branch w s = Branch (extended (size_of w) s.value % 2 ^ 32)

abbrev pub kind_of : Form → Spec → Kind
kind_of f s = kind_by f.access f.width s

-- the access of each kind
abbrev pub access_of : Kind → Access
access_of Constant = accesses.Read
access_of ReadRegister = accesses.Read
access_of ModifyRegister = accesses.Modify
access_of WriteRegister = accesses.Write
access_of BitsRegister = accesses.Bits
access_of (Branch d) = accesses.Branch
access_of (Read b) = accesses.Read
access_of (Modify b) = accesses.Modify
access_of (Write b) = accesses.Write
access_of (Address b) = accesses.Address
access_of (Bits b) = accesses.Bits

-- the register of an address, which may be PC, and its index register
abbrev pub IsAddressed : Spec → Type 0
IsAddressed s = (s.reg < 16) × IfSome s.index (λ x. x < 15)

-- what each kind rests on: a constant within its width, a register other than PC, or registers that exist
abbrev pub RestsOn : Kind → Width → Spec → Type 0
RestsOn Constant w s = s.value < 256 ^ size_of w
RestsOn ReadRegister w s = s.reg < 15
RestsOn ModifyRegister w s = s.reg < 15
RestsOn WriteRegister w s = s.reg < 15
RestsOn BitsRegister w s = s.reg < 15
RestsOn (Branch d) w s = Unit {0}
RestsOn (Read b) w s = IsAddressed s
RestsOn (Modify b) w s = IsAddressed s
RestsOn (Write b) w s = IsAddressed s
RestsOn (Address b) w s = IsAddressed s
RestsOn (Bits b) w s = IsAddressed s

addressed-prop : (s : Spec) → IsProp (IsAddressed s)
addressed-prop s = hlevel props

-- there is one proof of it at most
pub rests-prop : (k : Kind) (w : Width) (s : Spec) → IsProp (RestsOn k w s)
rests-prop Constant w s = le_prop
rests-prop ReadRegister w s = le_prop
rests-prop ModifyRegister w s = le_prop
rests-prop WriteRegister w s = le_prop
rests-prop BitsRegister w s = le_prop
rests-prop (Branch d) w s = Unit-prop
rests-prop (Read b) w s = addressed-prop s
rests-prop (Modify b) w s = addressed-prop s
rests-prop (Write b) w s = addressed-prop s
rests-prop (Address b) w s = addressed-prop s
rests-prop (Bits b) w s = addressed-prop s

-- the address that a register gives in each way, for an operand of `size` bytes
unfoldable pub base_by : Base → ℕ → ℕ → List ℕ → Interaction Place
base_by Deferred size n r = Done (place (slice_index r n) r)
base_by Decrement size n r = Done (place (minus (slice_index r n) size) (slice_set r n (minus (slice_index r n) size)))
base_by Increment size n r = Done (place (slice_index r n) (slice_set r n (plus (slice_index r n) size)))
base_by IncrementDeferred size n r = Touch intents.Read (slice_index r n) 4 (λ a. Done (place a (slice_set r n (plus (slice_index r n) 4))))
base_by (Absolute a) size n r = Done (place a r)
base_by (Displaced d) size n r = Done (place (plus (slice_index r n) d) r)
base_by (DisplacedDeferred d) size n r = Touch intents.Read (plus (slice_index r n) d) 4 (λ a. Done (place a r))

-- the same, and its index
unfoldable pub address_by : Base → ℕ → Spec → List ℕ → Interaction Place
address_by b size s r = base_by b size s.reg r >>= λ p. Done (indexed_by size s.index p)

-- what an operand of each kind does after its own bytes
unfoldable pub operand_by : Kind → Width → Spec → List ℕ → Interaction Evaluated
operand_by Constant w s r = Done (evaluated s.value Nowhere r)
operand_by ReadRegister w s r = Done (evaluated (register_value w r s.reg) Nowhere r)
operand_by ModifyRegister w s r = Done (evaluated (register_value w r s.reg) (Register s.reg) r)
operand_by WriteRegister w s r = Done (evaluated 0 (Register s.reg) r)
operand_by BitsRegister w s r = Done (evaluated 0 (Register s.reg) r)
operand_by (Branch d) w s r = Done (evaluated (plus (slice_index r 15) d) Nowhere r)
operand_by (Read b) w s r = address_by b (size_of w) s r >>= λ p. Touch intents.Read p.at (size_of w) (λ v. Done (evaluated v Nowhere p.r))
operand_by (Modify b) w s r = address_by b (size_of w) s r >>= λ p. Touch intents.Write p.at (size_of w) (λ v. Done (evaluated v (Memory p.at) p.r))
operand_by (Write b) w s r = address_by b (size_of w) s r >>= λ p. Touch intents.Write p.at (size_of w) (λ v. Done (evaluated 0 (Memory p.at) p.r))
operand_by (Address b) w s r = address_by b (size_of w) s r >>= λ p. Done (evaluated p.at Nowhere p.r)
operand_by (Bits b) w s r = address_by b (size_of w) s r >>= λ p. Done (evaluated 0 (Memory p.at) p.r)
