-- An instruction changes none of R0 to R14 but the one that its operation names.
use Rattle.std.proofs.Common.{◌≡◌, ◌≢◌, ℕ, zero, suc, ◌+◌, ◌<◌, ◌&&◌, Bool, true, false, List, [], ◌∷◌, map, Option, Some, None, Ok, refl, ap, ◌∙◌, sym, subst, arith, get_or-set_other, slice_index, slice_index_or, slice_set}
use Rattle.std.specs.Prelude.{◌%◌, nat_lt, if◌then◌else◌}
use Rattle.vv_base.specs.declared.width.Width.{Width}
use Rattle.vv_base.specs.declared.width.Width.TheVariants.{Byte, Word, Long, Quad}
use Rattle.vv_base.specs.Width.{size_of}
use Rattle.vax_table.specs.Branches.{added_one, bit_in, bit_made, bit_tested, branched_on_bit, branched_on_low_bit, byte_of_bit, keeping_c, looped, subtracted_one, with_bit}
use Rattle.vax_table.specs.Claims.{Holds}
use Rattle.vax_table.specs.Effects.{Effect, begun, dest_of, long_of, put, went_if}
use Rattle.vax_table.specs.Operand.{indexed_by}
use Rattle.vax_table.specs.AllOperands.{forms_in, no_operands, operand_of, operands_of, past_own_bytes, with_operand}
use Rattle.vax_table.specs.Operations.{operation_of, computed, branched, holds}
use Rattle.vax_table.specs.Plan.{performed, planned}
use Rattle.vax_table.specs.Rows.{row_of}
use Rattle.vax_table.specs.Interaction.{Done, Refuse, Space, outcome}
use Rattle.vax_table.specs.Spelling.{Instruction}
use Rattle.vax_table.specs.declared.act.Dest.{Dest}
use Rattle.vax_table.specs.declared.act.Dest.TheVariants.{Nowhere, Register, Memory}
use Rattle.vax_table.specs.declared.act.Refusal.TheVariants as refusals
use Rattle.vax_table.specs.declared.answer.Alu.{Alu}
use Rattle.vax_table.specs.declared.answer.AluOp.{AluOp}
use Rattle.vax_table.specs.declared.decoded.Spec.{Spec}
use Rattle.vax_table.specs.declared.evaluation.Evaluated.{Evaluated}
use Rattle.vax_table.specs.declared.evaluation.Operands.{Operands}
use Rattle.vax_table.specs.declared.evaluation.Place.{Place}
use Rattle.vax_table.specs.declared.meaning.Inputs.{Inputs}
use Rattle.vax_table.specs.declared.meaning.Operation.{Operation}
use Rattle.vax_table.specs.declared.meaning.Operation.TheVariants as does
use Rattle.vax_table.specs.declared.meaning.Target.{Target}
use Rattle.vax_table.specs.declared.meaning.Target.TheVariants as targets
use Rattle.vax_table.proofs.Claims.{holds-bind, holds_made, holds_then}
use Rattle.vax_operand.specs.declared.kind.Base.{Base}
use Rattle.vax_operand.specs.declared.kind.Base.TheVariants.{Deferred, Decrement, Increment, IncrementDeferred, Absolute, Displaced, DisplacedDeferred}
use Rattle.vax_operand.specs.declared.kind.Kind.{Kind}
use Rattle.vax_operand.specs.declared.kind.Kind.TheVariants.{Constant, ReadRegister, ModifyRegister, WriteRegister, BitsRegister, Branch, Read, Modify, Write, Address, Bits}
use Rattle.vax_operand.specs.declared.prepared.Operand.{Operand}
use Rattle.vax_operand.specs.Prepared.{address_by, base_by, operand_by}
use Rattle.vax_operand.proofs.Preparing.{prepared_same}
use Rattle.vax_operand.proofs.Steps.{left_from}
use Rattle.vax_kept.specs.Changed.{AreAlikeBut, all_leave_registers, changed_register, is_still, leaves_registers, operand_register, register_at, result_register, target_register}

-- R0 to R14 are alike
abbrev AreAlike : List ℕ → List ℕ → Type 0
AreAlike r q = (i : ℕ) → i < 15 → slice_index q i ≡ slice_index r i

-- a destination's register, if it is one, is this
abbrev IsAt : ℕ → Dest → Type 0
IsAt n Nowhere = Unit {0}
IsAt n (Register m) = m ≡ n
IsAt n (Memory at) = Unit {0}

other : (r : List ℕ) (k v i : ℕ) → i ≢ k → slice_index (slice_set r k v) i ≡ slice_index r i
other r k v i ne = get_or-set_other r k i v 0 ne

pc_alone : (r : List ℕ) (v : ℕ) → AreAlike r (slice_set r 15 v)
pc_alone r v i h = other r 15 v i (omega arith)

abbrev PlaceLeaves : List ℕ → List ℕ → Place → Type 0
PlaceLeaves r cs p = p.r ≡ r

base_leaves : (b : Base) (size n : ℕ) (r cs : List ℕ) → is_still b ≡ true → Holds (PlaceLeaves r) cs (base_by b size n r)
unfolding base_by
base_leaves Deferred size n r cs h = refl
base_leaves Decrement size n r cs h = cc
base_leaves Increment size n r cs h = cc
base_leaves IncrementDeferred size n r cs h = cc
base_leaves (Absolute a) size n r cs h = refl
base_leaves (Displaced d) size n r cs h = refl
base_leaves (DisplacedDeferred d) size n r cs h = λ v. refl

indexed_leaves : (size : ℕ) (x : Option ℕ) (p : Place) → (indexed_by size x p).r ≡ p.r
indexed_leaves size None p = refl
indexed_leaves size (Some x) p = refl

address_leaves : (b : Base) (size : ℕ) (s : Spec) (r cs : List ℕ) → is_still b ≡ true → Holds (PlaceLeaves r) cs (address_by b size s r)
unfolding address_by
address_leaves b size s r cs h = holds-bind (PlaceLeaves r) (PlaceLeaves r) cs (base_by b size s.reg r) _ (base_leaves b size s.reg r cs h) (λ ds p e. indexed_leaves size s.index p ∙ e)

-- the registers are these, and the destination's register is that
abbrev IsLeft : List ℕ → ℕ → List ℕ → Evaluated → Type 0
IsLeft r n cs e = (e.r ≡ r) × IsAt n e.dest

kind_leaves : (k : Kind) (w : Width) (s : Spec) (r cs : List ℕ) → leaves_registers k ≡ true → Holds (IsLeft r (operand_register k s.reg)) cs (operand_by k w s r)
unfolding operand_by
kind_leaves Constant w s r cs h = (refl, tt)
kind_leaves ReadRegister w s r cs h = (refl, tt)
kind_leaves ModifyRegister w s r cs h = (refl, refl)
kind_leaves WriteRegister w s r cs h = (refl, refl)
kind_leaves BitsRegister w s r cs h = (refl, refl)
kind_leaves (Branch d) w s r cs h = (refl, tt)
kind_leaves (Read b) w s r cs h = holds-bind (PlaceLeaves r) (IsLeft r 0) cs (address_by b (size_of w) s r) _ (address_leaves b (size_of w) s r cs h) (λ ds p e v. (e, tt))
kind_leaves (Modify b) w s r cs h = holds-bind (PlaceLeaves r) (IsLeft r 0) cs (address_by b (size_of w) s r) _ (address_leaves b (size_of w) s r cs h) (λ ds p e v. (e, tt))
kind_leaves (Write b) w s r cs h = holds-bind (PlaceLeaves r) (IsLeft r 0) cs (address_by b (size_of w) s r) _ (address_leaves b (size_of w) s r cs h) (λ ds p e v. (e, tt))
kind_leaves (Address b) w s r cs h = holds-bind (PlaceLeaves r) (IsLeft r 0) cs (address_by b (size_of w) s r) _ (address_leaves b (size_of w) s r cs h) (λ ds p e. (e, tt))
kind_leaves (Bits b) w s r cs h = holds-bind (PlaceLeaves r) (IsLeft r 0) cs (address_by b (size_of w) s r) _ (address_leaves b (size_of w) s r cs h) (λ ds p e. (e, tt))

-- the same after its own bytes, by which PC goes on
abbrev IsAfter : List ℕ → ℕ → List ℕ → Evaluated → Type 0
IsAfter r n cs e = AreAlike r e.r × IsAt n e.dest

operand_leaves : (x : Operand) (r cs : List ℕ) → leaves_registers x.kind ≡ true → Holds (IsAfter r (operand_register x.kind x.spec.reg)) cs (operand_of x.form x.spec r)
operand_leaves x r cs h =
    let n = operand_register x.kind x.spec.reg in
    let m = operand_by x.kind x.form.width x.spec (past_own_bytes x.length r) in
    let left : Holds (IsLeft (past_own_bytes x.length r) n) cs m = kind_leaves x.kind x.form.width x.spec (past_own_bytes x.length r) cs h in
    subst (Holds (IsAfter r n) cs) (prepared_same x.form x.spec x.kind x.length r x.prepared x.bytes)
    (holds_then (IsLeft (past_own_bytes x.length r) n) (IsAfter r n) cs m left (λ ds e p. (subst (AreAlike r) (sym p.0) (pc_alone r _), p.1)))

put_at : (ds : List Dest) (i t n : ℕ) (d : Dest) → (i ≡ t → IsAt n d) → IsAt n (slice_index_or ds t Nowhere) → IsAt n (slice_index_or (slice_set ds i d) t Nowhere)
put_at [] i t n d f h = h
put_at (x ∷ xs) zero zero n d f h = f refl
put_at (x ∷ xs) zero (suc t) n d f h = h
put_at (x ∷ xs) (suc i) zero n d f h = h
put_at (x ∷ xs) (suc i) (suc t) n d f h = put_at xs i t n d (λ e. f (ap suc e)) h

and_both : (a b : Bool) → (a && b) ≡ true → (a ≡ true) × (b ≡ true)
and_both true b e = (refl, e)
and_both false b e = cc

-- the registers are alike, and the destination of this number has that register, if any
abbrev AreAfter : List ℕ → (t n : ℕ) → List ℕ → Operands → Type 0
AreAfter r t n cs o = AreAlike r o.r × IsAt n (dest_of o t)

from_leaves : (r : List ℕ) (t n i : ℕ) (xs : List Operand) (o : Operands) (cs : List ℕ) → all_leave_registers xs ≡ true → ((k : ℕ) → i + k ≡ t → register_at k xs ≡ n) →
    AreAfter r t n cs o → Holds (AreAfter r t n) cs (left_from i xs o)
from_leaves r t n i [] o cs still named h = h
from_leaves r t n i (x ∷ xs) o cs still named h =
    let parts = and_both (leaves_registers x.kind) (all_leave_registers xs) still in
    holds-bind (IsAfter o.r (operand_register x.kind x.spec.reg)) (AreAfter r t n) cs (operand_of x.form x.spec o.r) _ (operand_leaves x o.r cs parts.0)
    (λ ds e p. from_leaves r t n (i + 1) xs (with_operand i o e) ds parts.1 (λ k g. named (suc k) (omega (arith, g)))
    ((λ j low. p.0 j low ∙ h.0 j low), put_at o.dests i t n e.dest (λ g. subst (λ (m : ℕ). IsAt m e.dest) (named 0 (omega (arith, g))) p.1) h.1))

nowhere : (t n : ℕ) → IsAt n (slice_index_or (Nowhere ∷ Nowhere ∷ Nowhere ∷ Nowhere ∷ []) t Nowhere)
nowhere zero n = tt
nowhere (suc zero) n = tt
nowhere (suc (suc zero)) n = tt
nowhere (suc (suc (suc zero))) n = tt
nowhere (suc (suc (suc (suc t)))) n = tt

operands_leave : (d : Instruction) (xs : List Operand) (r : List ℕ) (t : ℕ) → map (λ x. x.form) xs ≡ forms_in (row_of d.opcode) → map (λ x. x.spec) xs ≡ d.specs →
    all_leave_registers xs ≡ true → Holds (AreAfter r t (register_at t xs)) [] (operands_of d r)
unfolding operands_of
operands_leave d xs r t f g still =
    rw (sym f, sym g) (from_leaves r t (register_at t xs) 0 xs (no_operands (past_own_bytes (if d.wait then 2 else 1) r)) [] still (λ k e. ap (λ (j : ℕ). register_at j xs) (omega (arith, e))) (pc_alone r _, nowhere t _))

-- a result at such a destination
put_alike : (r : List ℕ) (n : ℕ) (dest : Dest) (w : Width) (v : ℕ) (e : Effect) → w ≢ Quad → IsAt n dest → AreAlike r e.r → AreAlikeBut n r (put dest w v e).r
put_alike r n Nowhere w v e narrow at h = λ i low ne. h i low
put_alike r n (Memory a) w v e narrow at h = λ i low ne. h i low
put_alike r n (Register m) Byte v e narrow at h = λ i low ne. other e.r m _ i (λ g. ne (g ∙ at)) ∙ h i low
put_alike r n (Register m) Word v e narrow at h = λ i low ne. other e.r m _ i (λ g. ne (g ∙ at)) ∙ h i low
put_alike r n (Register m) Long v e narrow at h = λ i low ne. other e.r m _ i (λ g. ne (g ∙ at)) ∙ h i low
put_alike r n (Register m) Quad v e narrow at h = absurd (narrow refl)

-- the number of the operand that gets the result
abbrev target_number : Target → ℕ
target_number targets.CodesOnly = 0
target_number targets.First = 0
target_number targets.Second = 1
target_number targets.Third = 2

abbrev number_of : Operation → ℕ
number_of (does.Compute op w inputs target) = target_number target
number_of (does.AddOne at_limit) = 1
number_of (does.BranchOnBit on becomes) = 1
number_of operation = 0

computed_alike : (r : List ℕ) (xs : List Operand) (op : AluOp) (w : Width) (inputs : Inputs) (target : Target) (o : Operands) (psw : ℕ) → w ≢ Quad → AreAlike r o.r →
    IsAt (register_at (target_number target) xs) (dest_of o (target_number target)) → AreAlikeBut (target_register target xs) r (computed op w inputs target o psw).r
unfolding computed
computed_alike r xs op w inputs targets.CodesOnly o psw narrow h at = λ i low ne. h i low
computed_alike r xs op w inputs targets.First o psw narrow h at = put_alike r _ (dest_of o 0) w _ _ narrow at h
computed_alike r xs op w inputs targets.Second o psw narrow h at = put_alike r _ (dest_of o 1) w _ _ narrow at h
computed_alike r xs op w inputs targets.Third o psw narrow h at = put_alike r _ (dest_of o 2) w _ _ narrow at h

went_alike : (r : List ℕ) (n : ℕ) (taken : Bool) (pc : ℕ) (e : Effect) → AreAlikeBut n r e.r → AreAlikeBut n r (went_if taken pc e).r
went_alike r n true pc e h = λ i low ne. pc_alone e.r pc i low ∙ h i low ne
went_alike r n false pc e h = h

-- all but one register
abbrev IsAlikeBut : ℕ → List ℕ → List ℕ → Effect → Type 0
IsAlikeBut n r cs e = AreAlikeBut n r e.r

narrow_byte : Byte ≢ Quad
narrow_byte e = cc

narrow_word : Word ≢ Quad
narrow_word e = cc

narrow_long : Long ≢ Quad
narrow_long e = cc

looped_alike : (r : List ℕ) (n : ℕ) (dest : Dest) (x : Alu) (taken : Bool) (to : ℕ) (o : Operands) (psw : ℕ) → IsAt n dest → AreAlike r o.r → AreAlikeBut n r (went_if taken to (looped Long dest x o psw)).r
looped_alike r n dest x taken to o psw at h =
    let e : Effect = record (begun o psw) { psw = keeping_c psw x.psw; trap = x.trap } in
    went_alike r n taken to (put dest Long x.value e) (put_alike r n dest Long x.value e narrow_long at h)

tested_alike : (r : List ℕ) (n : ℕ) (on : Bool) (becomes : Option Bool) (dest : Dest) (w : Width) (k v to : ℕ) (e : Effect) → w ≢ Quad → IsAt n dest → AreAlike r e.r → AreAlikeBut n r (bit_tested on k v to (bit_made becomes dest w k v e)).r
tested_alike r n on None dest w k v to e narrow at h = went_alike r n _ to e (λ i low ne. h i low)
tested_alike r n on (Some b) dest w k v to e narrow at h = went_alike r n _ to (put dest w (with_bit b k v) e) (put_alike r n dest w (with_bit b k v) e narrow at h)

unless_refused : (r : List ℕ) (n : ℕ) (cs : List ℕ) (b : Bool) (e : Effect) → AreAlikeBut n r e.r → Holds (IsAlikeBut n r) cs (if b then Done e else Refuse refusals.ReservedOperand)
unless_refused r n cs true e h = h
unless_refused r n cs false e h = tt

bit_alike : (r : List ℕ) (n : ℕ) (on : Bool) (becomes : Option Bool) (dest : Dest) (position to : ℕ) (e : Effect) (cs : List ℕ) → IsAt n dest → AreAlike r e.r → Holds (IsAlikeBut n r) cs (bit_in on becomes dest position to e)
bit_alike r n on becomes Nowhere position to e cs at h = λ i low ne. h i low
bit_alike r n on becomes (Register m) position to e cs at h = unless_refused r n cs (nat_lt position 32) _ (tested_alike r n on becomes (Register m) Long position _ to e narrow_long at h)
bit_alike r n on becomes (Memory base) position to e cs at h = λ v. tested_alike r n on becomes (Memory (byte_of_bit base position)) Byte (position % 8) v to e narrow_byte tt h

performed_alike : (r : List ℕ) (what : Operation) (xs : List Operand) (o : Operands) (psw : ℕ) (cs : List ℕ) → result_register what xs < 15 →
    AreAfter r (number_of what) (register_at (number_of what) xs) cs o → Holds (IsAlikeBut (result_register what xs) r) cs (performed what o psw)
unfolding performed branched added_one subtracted_one branched_on_low_bit branched_on_bit
performed_alike r (does.Compute op Byte inputs target) xs o psw cs few h = computed_alike r xs op Byte inputs target o psw narrow_byte h.0 h.1
performed_alike r (does.Compute op Word inputs target) xs o psw cs few h = computed_alike r xs op Word inputs target o psw narrow_word h.0 h.1
performed_alike r (does.Compute op Long inputs target) xs o psw cs few h = computed_alike r xs op Long inputs target o psw narrow_long h.0 h.1
performed_alike r (does.Branch condition) xs o psw cs few h = went_alike r 0 (holds condition psw) _ (begun o psw) (λ i low ne. h.0 i low)
performed_alike r (does.AddOne at_limit) xs o psw cs few h = looped_alike r (register_at 1 xs) (dest_of o 1) _ _ (long_of o 2) o psw h.1 h.0
performed_alike r (does.SubtractOne at_zero) xs o psw cs few h = looped_alike r (register_at 0 xs) (dest_of o 0) _ _ (long_of o 1) o psw h.1 h.0
performed_alike r (does.BranchOnLowBit on) xs o psw cs few h = went_alike r 0 _ _ (begun o psw) (λ i low ne. h.0 i low)
performed_alike r (does.BranchOnBit on becomes) xs o psw cs few h = bit_alike r (register_at 1 xs) on becomes (dest_of o 1) (long_of o 0) (long_of o 2) (begun o psw) cs h.1 h.0
performed_alike r what xs o psw cs few h = absurd (omega arith)

within : (b : Bool) (n : ℕ) → (if b then n else 15) < 15 → b ≡ true
within true n h = refl
within false n h = absurd (omega arith)

-- an instruction, by its operands as they are prepared
pub changes_one : (s : Space) (d : Instruction) (what : Operation) (xs : List Operand) (r : List ℕ) (psw : ℕ) (e : Effect) → what ≡ operation_of d.opcode → map (λ x. x.form) xs ≡ forms_in (row_of d.opcode) →
    map (λ x. x.spec) xs ≡ d.specs → changed_register what xs < 15 → Ok e ≡ outcome s (planned d r psw) → AreAlikeBut (changed_register what xs) r e.r
unfolding planned
changes_one s d what xs r psw e does f g few is =
    let still : all_leave_registers xs ≡ true = within (all_leave_registers xs) (result_register what xs) few in
    let same : changed_register what xs ≡ result_register what xs = ap (λ (b : Bool). if b then result_register what xs else 15) still in
    let low : result_register what xs < 15 = subst (λ (n : ℕ). n < 15) same few in
    let all : Holds (IsAlikeBut (result_register what xs) r) [] (planned d r psw) =
    holds-bind (AreAfter r (number_of what) (register_at (number_of what) xs)) (IsAlikeBut (result_register what xs) r) [] (operands_of d r) _ (operands_leave d xs r (number_of what) f g still)
    (λ ds o h. subst (λ (op : Operation). Holds (IsAlikeBut (result_register what xs) r) ds (performed op o psw)) does (performed_alike r what xs o psw ds low h)) in
    subst (λ (n : ℕ). AreAlikeBut n r e.r) (sym same) (holds_made (IsAlikeBut (result_register what xs) r) s [] (planned d r psw) e all (sym is))
