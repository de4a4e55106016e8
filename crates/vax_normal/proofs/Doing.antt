-- What follows operands that are had at once is what a shape says.
use Rattle.std.proofs.Common.{◌≡◌, ◌≢◌, ℕ, zero, suc, ◌+◌, ◌-◌, ◌*◌, ◌%◌, ◌^◌, ◌<◌, ◌≤◌, Bool, true, false, not, bit_and, List, [], ◌∷◌, length, Option, None, refl, ap, ◌∙◌, sym, arith, get_or-set_same, slice_index, slice_index_or, slice_set}
use Rattle.std.specs.Int.{bit_at}
use Rattle.std.specs.Prelude.{◌==◌, if◌then◌else◌, min, nat_lt}
use Rattle.std.proofs.lemmas.List.{set-set}
use Rattle.std.proofs.Math.Nat.{min-eq_left}
use Rattle.std.proofs.lemmas.Bool.{lt-ltb, ne_eqb}
use Rattle.std.proofs.lemmas.Nat.{and_mask, pow_pos}
use Rattle.std.proofs.lemmas.Nat.Bits.{and_pow, bit_at_and, bit_at_ones}
use Rattle.vv_base.specs.declared.width.Width.{Width}
use Rattle.vv_base.specs.declared.width.Width.TheVariants.{Long}
use Rattle.vax_table.specs.Arithmetic.{alu_of}
use Rattle.vv_base.specs.Bits.{is_set}
use Rattle.vax_table.specs.Branches.{bit_in, branched_on_bit, branched_on_low_bit, comes_out, keeping_c, subtracted_one}
use Rattle.vax_table.specs.Operations.{computed, first_input, second_input, target_of, branched, holds}
use Rattle.vax_table.specs.Effects.{Effect, begun, long_of, put, put_in_register, went_if}
use Rattle.vax_table.specs.Interaction.{Done, Interaction, Refuse}
use Rattle.vax_table.specs.Operand.{plus}
use Rattle.vax_table.specs.AllOperands.{past_own_bytes}
use Rattle.vax_table.specs.Plan.{performed}
use Rattle.vax_table.specs.declared.act.Dest.{Dest}
use Rattle.vax_table.specs.declared.act.Dest.TheVariants.{Nowhere, Register}
use Rattle.vax_table.specs.declared.act.Refusal.TheVariants as refusals
use Rattle.vax_table.specs.declared.answer.Alu.{Alu}
use Rattle.vax_table.specs.declared.answer.AluOp.{AluOp}
use Rattle.vax_table.specs.declared.answer.AluOp.TheVariants.{Sub}
use Rattle.vax_table.specs.declared.evaluation.Operands.{Operands}
use Rattle.vax_table.specs.declared.meaning.Condition.{Condition}
use Rattle.vax_table.specs.declared.meaning.Condition.TheVariants.{Always}
use Rattle.vax_table.specs.declared.meaning.Inputs.{Inputs}
use Rattle.vax_table.specs.declared.meaning.Operation.TheVariants as does
use Rattle.vax_table.specs.declared.meaning.Target.{Target}
use Rattle.vax_operand.specs.declared.kind.Kind.{Kind}
use Rattle.vax_operand.specs.declared.kind.Kind.TheVariants.{Constant, ModifyRegister, BitsRegister, Branch}
use Rattle.vax_operand.specs.declared.prepared.Operand.{Operand}
use Rattle.vax_normal.specs.AtHand.{AreAlikeButPc, IsDoneBy, IsPutBy, all_at_hand, dest_at_hand, value_at_hand}
use Rattle.vax_normal.specs.Normal.{branches_at, gone_on, has_bits, number_by, quietly, with_result}
use Rattle.vax_normal.specs.declared.shape.Countdown.{Countdown}
use Rattle.vax_normal.specs.declared.shape.Number.{Number}
use Rattle.vax_normal.specs.declared.shape.Shape.TheVariants.{Branches, BranchesOnBits, CountsDown}
use Rattle.vax_normal.proofs.Taking.{alike_on, pc_alone}

-- an effect by the registers, the status word and the trap
abbrev pub stored_nothing : List ℕ → ℕ → Option ℕ → Effect
stored_nothing r psw trap = record { r = r; psw = psw; writes = []; trap = trap }

pub computes_done : (op : AluOp) (w : Width) (inputs : Inputs) (target : Target) (a b n k : ℕ) (r : List ℕ) (o : Operands) (psw : ℕ) →
    first_input inputs o ≡ a → second_input inputs o ≡ b → IsPutBy n (target_of target o) → o.r ≡ past_own_bytes k r →
    performed (does.Compute op w inputs target) o psw ≡ Done (record { r = with_result n w (alu_of op a b w psw).value (past_own_bytes k r); psw = (alu_of op a b w psw).psw; writes = []; trap = (alu_of op a b w psw).trap })
unfolding performed computed
computes_done op w inputs target a b n k r o psw e f at g =
    let x : Alu = alu_of op a b w psw in
    let placed : put (target_of target o) w x.value (stored_nothing o.r x.psw x.trap) ≡ stored_nothing (with_result n w x.value (past_own_bytes k r)) x.psw x.trap =
    at w x.value (stored_nothing o.r x.psw x.trap) ∙ ap (λ (q : List ℕ). stored_nothing (with_result n w x.value q) x.psw x.trap) g in
    let whole : computed op w inputs target o psw ≡ stored_nothing (with_result n w x.value (past_own_bytes k r)) x.psw x.trap =
    ap (λ (m : ℕ). put (target_of target o) w (alu_of op m (second_input inputs o) w psw).value (stored_nothing o.r (alu_of op m (second_input inputs o) w psw).psw (alu_of op m (second_input inputs o) w psw).trap)) e
    ∙ ap (λ (m : ℕ). put (target_of target o) w (alu_of op a m w psw).value (stored_nothing o.r (alu_of op a m w psw).psw (alu_of op a m w psw).trap)) f
    ∙ placed in
    ap (λ (z : Effect). Done z) whole

-- a branch from the next instruction is one from this
target_is : (pc k d to jump next : ℕ) → next ≡ plus pc k → to ≡ plus next d % 2 ^ 32 → jump ≡ (d + k) % 2 ^ 32 → to ≡ plus pc jump
target_is pc k d to jump next e f g = omega (arith, e, f, g)

pub gone_to : (r q : List ℕ) (d k jump to : ℕ) → 15 < length r → q ≡ past_own_bytes k r → to ≡ plus (slice_index q 15) d % 2 ^ 32 → jump ≡ (d + k) % 2 ^ 32 → slice_set q 15 to ≡ past_own_bytes jump r
gone_to r q d k jump to room e f g =
    let pc : slice_index q 15 ≡ plus (slice_index r 15) k = ap (λ (xs : List ℕ). slice_index xs 15) e ∙ get_or-set_same r 15 (plus (slice_index r 15) k) 0 room in
    ap (λ (xs : List ℕ). slice_set xs 15 to) e ∙ set-set r 15 (plus (slice_index r 15) k) to ∙ ap (λ (v : ℕ). slice_set r 15 v) (target_is (slice_index r 15) k d to jump (slice_index q 15) pc f g)

pub went_on : (is : Bool) (r q : List ℕ) (d k jump to psw : ℕ) → 15 < length r → q ≡ past_own_bytes k r → to ≡ plus (slice_index q 15) d % 2 ^ 32 → jump ≡ (d + k) % 2 ^ 32 →
    went_if is to (quietly q psw) ≡ quietly (gone_on is jump k r) psw
went_on true r q d k jump to psw room e f g = ap (λ (xs : List ℕ). quietly xs psw) (gone_to r q d k jump to room e f g)
went_on false r q d k jump to psw room e f g = ap (λ (xs : List ℕ). quietly xs psw) e

-- ---- tests of a bit

one_bit : (m p : ℕ) → m < 2 → p ≢ 0 → not (m * p == 0) ≡ (m == 1)
one_bit zero p low some = let none : 0 * p ≡ 0 = omega arith in ap (λ (v : ℕ). not (v == 0)) none
one_bit (suc zero) p low some =
    let whole : 1 * p ≡ p = omega arith in
    let no : (p == 0) ≡ false = ne_eqb p 0 some in
    ap (λ (v : ℕ). not (v == 0)) whole ∙ ap not no
one_bit (suc (suc m)) p low some = absurd (omega arith)

by_mask : (n k : ℕ) → is_set n k ≡ has_bits (2 ^ k) n
by_mask n k =
    let some : 2 ^ k ≢ 0 = λ g. omega (arith, g, pow_pos k) in
    let low : bit_at n k < 2 = omega arith in
    sym (ap (λ (v : ℕ). not (v == 0)) (and_pow n k) ∙ one_bit (bit_at n k) (2 ^ k) low some)

bit_of_longword : (x k : ℕ) → k < 32 → is_set x k ≡ is_set (x % 2 ^ 32) k
bit_of_longword x k low =
    let most : bit_at x k ≤ 1 = omega arith in
    let kept : bit_at (bit_and x (2 ^ 32 - 1)) k ≡ bit_at x k = bit_at_and x (2 ^ 32 - 1) k ∙ ap (λ (m : ℕ). min (bit_at x k) m) (bit_at_ones 32 k low) ∙ min-eq_left most in
    ap (λ (m : ℕ). m == 1) (sym kept) ∙ ap (λ (m : ℕ). is_set m k) (and_mask x 32)

-- where a branch operand leads
pub leads : (x : Operand) (d : ℕ) (q : List ℕ) → x.kind ≡ Branch d → value_at_hand x.kind x.form.width x.spec q ≡ plus (slice_index q 15) d
leads x d q is = ap (λ (z : Kind). value_at_hand z x.form.width x.spec q) is

-- a branch to `jump` bytes from its own address
went_by : (is : Bool) (r q : List ℕ) (k jump to psw : ℕ) → q ≡ past_own_bytes k r → to ≡ plus (slice_index r 15) jump → went_if is to (quietly q psw) ≡ quietly (gone_on is jump k r) psw
went_by true r q k jump to psw e f =
    ap (λ (xs : List ℕ). quietly xs psw) (ap (λ (xs : List ℕ). slice_set xs 15 to) e ∙ set-set r 15 (plus (slice_index r 15) k) to ∙ ap (λ (v : ℕ). slice_set r 15 v) f)
went_by false r q k jump to psw e f = ap (λ (xs : List ℕ). quietly xs psw) e

pub branches_done : (condition : Condition) (x : Operand) (k jump : ℕ) → ((r q : List ℕ) → slice_index q 15 ≡ plus (slice_index r 15) k → value_at_hand x.kind x.form.width x.spec q % 2 ^ 32 ≡ plus (slice_index r 15) jump) →
    IsDoneBy (Branches condition jump) k (does.Branch condition) (x ∷ [])
unfolding performed branched
branches_done condition x k jump by r q psw room alike pc =
    let o : Operands = all_at_hand (x ∷ []) q in
    let here : slice_index o.r 15 ≡ plus (slice_index r 15) k = ap (λ (xs : List ℕ). slice_index xs 15) pc ∙ get_or-set_same r 15 (plus (slice_index r 15) k) 0 room in
    ap (λ (z : Effect). Done z) (went_by (holds condition psw) r o.r k jump (long_of o 0) psw pc (by r o.r here))

pub low_bit_done : (on : Bool) (x y : Operand) (n : Number) (d k jump : ℕ) → y.kind ≡ Branch d → jump ≡ (d + k) % 2 ^ 32 →
    ((r q : List ℕ) → AreAlikeButPc r q → value_at_hand x.kind x.form.width x.spec q % 2 ^ 32 ≡ number_by n r) → IsDoneBy (BranchesOnBits on n 1 jump) k (does.BranchOnLowBit on) (x ∷ (y ∷ []))
unfolding performed branched_on_low_bit
low_bit_done on x y n d k jump is by has r q psw room alike pc =
    let o : Operands = all_at_hand (x ∷ (y ∷ [])) q in
    let first : long_of o 0 ≡ number_by n r = has r (past_own_bytes x.length q) (alike_on r q x.length alike) in
    let to : long_of o 1 ≡ plus (slice_index o.r 15) d % 2 ^ 32 = ap (λ (m : ℕ). m % 2 ^ 32) (leads y d o.r is) in
    ap (λ (z : Effect). Done z)
    (ap (λ (m : ℕ). went_if (comes_out on (is_set m 0)) (long_of o 1) (begun o psw)) first ∙ ap (λ (b : Bool). went_if (comes_out on b) (long_of o 1) (begun o psw)) (by_mask (number_by n r) 0)
    ∙ went_on (comes_out on (has_bits 1 (number_by n r))) r o.r d k jump (long_of o 1) psw room pc to by)

pub bit_done : (on : Bool) (x y z : Operand) (n : Number) (d k jump : ℕ) → x.kind ≡ Constant → x.spec.value < 32 → y.kind ≡ BitsRegister → y.spec.reg < 15 → z.kind ≡ Branch d → jump ≡ (d + k) % 2 ^ 32 →
    ((r : List ℕ) → number_by n r ≡ slice_index r y.spec.reg % 2 ^ 32) → IsDoneBy (BranchesOnBits on n (2 ^ x.spec.value) jump) k (does.BranchOnBit on None) (x ∷ (y ∷ (z ∷ [])))
unfolding performed branched_on_bit
bit_done on x y z n d k jump fixed few held low is by has r q psw room alike pc =
    let o : Operands = all_at_hand (x ∷ (y ∷ (z ∷ []))) q in
    let p : ℕ = x.spec.value in
    let reg : ℕ = y.spec.reg in
    let value : slice_index o.values 0 ≡ p = ap (λ (w : Kind). value_at_hand w x.form.width x.spec (past_own_bytes x.length q)) fixed in
    let small : p % 2 ^ 32 ≡ p = omega (arith, few) in
    let position : long_of o 0 ≡ p = ap (λ (m : ℕ). m % 2 ^ 32) value ∙ small in
    let dest : slice_index_or o.dests 1 Nowhere ≡ Register reg = ap (λ (w : Kind). dest_at_hand w reg) held in
    let to : long_of o 2 ≡ plus (slice_index o.r 15) d % 2 ^ 32 = ap (λ (m : ℕ). m % 2 ^ 32) (leads z d o.r is) in
    let same : slice_index o.r reg ≡ slice_index r reg = ap (λ (xs : List ℕ). slice_index xs reg) pc ∙ pc_alone r _ reg low in
    let tested : is_set (slice_index o.r reg) p ≡ has_bits (2 ^ p) (number_by n r) =
    ap (λ (m : ℕ). is_set m p) same ∙ bit_of_longword (slice_index r reg) p few ∙ by_mask (slice_index r reg % 2 ^ 32) p ∙ ap (has_bits (2 ^ p)) (sym (has r)) in
    let within : nat_lt p 32 ≡ true = lt-ltb p 32 few in
    let went : Bool → Effect = λ b. went_if (comes_out on b) (long_of o 2) (begun o psw) in
    ap (λ (t : Dest). bit_in on None t (long_of o 0) (long_of o 2) (begun o psw)) dest ∙ ap (λ (m : ℕ). bit_in on None (Register reg) m (long_of o 2) (begun o psw)) position
    ∙ ap (λ (b : Bool). let i : Interaction Effect = if b then Done (went (is_set (slice_index o.r reg) p)) else Refuse refusals.ReservedOperand in i) within
    ∙ ap (λ (z : Effect). Done z) (ap went tested ∙ went_on (comes_out on (has_bits (2 ^ p) (number_by n r))) r o.r d k jump (long_of o 2) psw room pc to by)

pub nothing_done : (k : ℕ) (xs : List Operand) → IsDoneBy (Branches Always k) k does.Nothing xs
unfolding performed
nothing_done k xs r q psw room alike pc = ap (λ (ys : List ℕ). let i : Interaction Effect = Done (quietly ys psw) in i) pc

-- two places of a list can be set in either order
pub set_apart : (xs : List ℕ) (i j a b : ℕ) → i ≢ j → slice_set (slice_set xs i a) j b ≡ slice_set (slice_set xs j b) i a
set_apart [] i j a b ne = refl
set_apart (x ∷ xs) zero zero a b ne = absurd (ne refl)
set_apart (x ∷ xs) zero (suc j) a b ne = refl
set_apart (x ∷ xs) (suc i) zero a b ne = refl
set_apart (x ∷ xs) (suc i) (suc j) a b ne = ap (λ (ys : List ℕ). x ∷ ys) (set_apart xs i j a b (λ e. ne (ap suc e)))

pub result_low : (n : ℕ) (w : Width) (v : ℕ) (r : List ℕ) → n < 15 → with_result n w v r ≡ put_in_register w n v r
result_low n w v r low = let is : nat_lt n 15 ≡ true = lt-ltb n 15 low in rw is refl

-- a loop's index in a register, and its branch
looped_on : (is : Bool) (r q : List ℕ) (n v d k jump to psw : ℕ) (trap : Option ℕ) → n < 15 → 15 < length r → q ≡ past_own_bytes k r → to ≡ plus (slice_index q 15) d % 2 ^ 32 → jump ≡ (d + k) % 2 ^ 32 →
    went_if is to (put (Register n) Long v (stored_nothing q psw trap)) ≡ stored_nothing (with_result n Long v (gone_on is jump k r)) psw trap
looped_on true r q n v d k jump to psw trap low room e f g =
    let apart : n ≢ 15 = λ h. omega (arith, h) in
    ap (λ (xs : List ℕ). stored_nothing xs psw trap)
    (set_apart q n 15 (v % 2 ^ 32) to apart ∙ ap (λ (xs : List ℕ). slice_set xs n (v % 2 ^ 32)) (gone_to r q d k jump to room e f g) ∙ sym (result_low n Long v (past_own_bytes jump r) low))
looped_on false r q n v d k jump to psw trap low room e f g =
    ap (λ (xs : List ℕ). stored_nothing xs psw trap) (ap (λ (xs : List ℕ). slice_set xs n (v % 2 ^ 32)) e ∙ sym (result_low n Long v (past_own_bytes k r) low))

-- the index of a countdown after it
abbrev index_after : ℕ → ℕ → Alu
index_after m psw = alu_of Sub 1 m Long psw

abbrev counted : Bool → Dest → (to m psw : ℕ) → List ℕ → Effect
counted at_zero dest to m psw q =
    went_if (branches_at at_zero (index_after m psw).value) to (put dest Long (index_after m psw).value (stored_nothing q (keeping_c psw (index_after m psw).psw) (index_after m psw).trap))

pub counts_done : (c : Countdown) (x y : Operand) (d k jump : ℕ) → x.kind ≡ ModifyRegister → x.form.width ≡ Long → x.spec.reg ≡ c.register → y.kind ≡ Branch d → jump ≡ (d + k) % 2 ^ 32 →
    IsDoneBy (CountsDown c jump) k (does.SubtractOne c.at_zero) (x ∷ (y ∷ []))
unfolding performed subtracted_one
counts_done c x y d k jump kind wide named is by r q psw room alike pc =
    let o : Operands = all_at_hand (x ∷ (y ∷ [])) q in
    let n = c.register in
    let low : n < 15 = c.there in
    let own : List ℕ = past_own_bytes x.length q in
    let value : slice_index o.values 0 ≡ slice_index own x.spec.reg =
    ap (λ (z : Kind). value_at_hand z x.form.width x.spec own) kind ∙ ap (λ (w : Width). value_at_hand ModifyRegister w x.spec own) wide in
    let first : long_of o 0 ≡ slice_index r n % 2 ^ 32 =
    ap (λ (m : ℕ). m % 2 ^ 32) (value ∙ ap (slice_index own) named ∙ alike_on r q x.length alike n low) in
    let dest : slice_index_or o.dests 0 Nowhere ≡ Register n = ap (λ (z : Kind). dest_at_hand z x.spec.reg) kind ∙ ap (λ (m : ℕ). Register m) named in
    let to : long_of o 1 ≡ plus (slice_index o.r 15) d % 2 ^ 32 = ap (λ (m : ℕ). m % 2 ^ 32) (leads y d o.r is) in
    let m : ℕ = slice_index r n % 2 ^ 32 in
    ap (λ (z : Effect). Done z)
    (ap (λ (v : ℕ). counted c.at_zero (slice_index_or o.dests 0 Nowhere) (long_of o 1) v psw o.r) first
    ∙ ap (λ (t : Dest). counted c.at_zero t (long_of o 1) m psw o.r) dest
    ∙ looped_on (branches_at c.at_zero (index_after m psw).value) r o.r n (index_after m psw).value d k jump (long_of o 1) (keeping_c psw (index_after m psw).psw) (index_after m psw).trap low room pc to by)
