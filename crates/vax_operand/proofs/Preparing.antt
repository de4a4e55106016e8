-- What a prepared operand does is what the operand does.
use Rattle.std.proofs.Common.{◌≡◌, ℕ, ◌%◌, ◌^◌, ◌<◌, ◌&&◌, Bool, true, false, eqb, List, refl, ap, ◌∙◌, subst, arith}
use Rattle.std.specs.Prelude.{OnOk, Result}
use Rattle.vv_base.specs.declared.width.Width.{Width}
use Rattle.vv_base.specs.declared.width.Width.TheVariants.{Byte, Word, Long, Quad}
use Rattle.vv_base.specs.Width.{size_of}
use Rattle.vax_table.specs.declared.act.Dest.{Dest}
use Rattle.vax_table.specs.declared.decoded.Spec.{Spec}
use Rattle.vax_table.specs.declared.forms.Access.{Access}
use Rattle.vax_table.specs.declared.forms.Access.TheVariants.{Read, Modify, Write, Address, Bits, Branch}
use Rattle.vax_table.specs.declared.forms.Form.{Form}
use Rattle.vax_table.specs.Operand.{plus, base_address, address_of, read_operand, modified_operand, written_operand, address_operand, bits_operand, branch_operand, by_access}
use Rattle.vax_table.specs.AllOperands.{past_own_bytes, operand_length, operand_of}
use Rattle.vax_table.specs.declared.evaluation.Trouble.{Trouble as Told}
use Rattle.vax_table.specs.LegalOperands.{FitsForm, IsFormed, IsLegalOperand}
use Rattle.vax_table.proofs.Tests.{if_both, eq_of}
use Rattle.vax_operand.specs.declared.kind.Kind.{Kind}
use Rattle.vax_operand.specs.Prepared.{RestsOn, access_of, address_by, base_by, base_of, kind_by, kind_of, operand_by}

plus_low : (a d : ℕ) → plus a (d % 2 ^ 32) ≡ plus a d
plus_low a d = omega arith

-- an address by its prepared way
base_same : (b6 b7 immediate b8 absolute b9 even : Bool) (size : ℕ) (s : Spec) (r : List ℕ) → eqb s.mode 6 ≡ b6 → eqb s.mode 7 ≡ b7 → (eqb s.mode 8 && eqb s.reg 15) ≡ immediate →
    eqb s.mode 8 ≡ b8 → (eqb s.mode 9 && eqb s.reg 15) ≡ absolute → eqb s.mode 9 ≡ b9 → eqb (s.mode % 2) 0 ≡ even →
    base_by (base_of size s) size s.reg r ≡ base_address size s r
unfolding base_of base_by base_address
base_same true b7 bi b8 ba b9 be size s r e6 e7 ei e8 ea e9 ee = rw e6 refl
base_same false true bi b8 ba b9 be size s r e6 e7 ei e8 ea e9 ee = rw (e6, e7) refl
base_same false false true b8 ba b9 be size s r e6 e7 ei e8 ea e9 ee = rw (e6, e7, ei) refl
base_same false false false true ba b9 be size s r e6 e7 ei e8 ea e9 ee = rw (e6, e7, ei, e8) refl
base_same false false false false true b9 be size s r e6 e7 ei e8 ea e9 ee = rw (e6, e7, ei, e8, ea) refl
base_same false false false false false true be size s r e6 e7 ei e8 ea e9 ee = rw (e6, e7, ei, e8, ea, e9) refl
base_same false false false false false false true size s r e6 e7 ei e8 ea e9 ee = rw (e6, e7, ei, e8, ea, e9, ee) (rw plus_low refl)
base_same false false false false false false false size s r e6 e7 ei e8 ea e9 ee = rw (e6, e7, ei, e8, ea, e9, ee) (rw plus_low refl)

based : (size : ℕ) (s : Spec) (r : List ℕ) → base_by (base_of size s) size s.reg r ≡ base_address size s r
based size s r = base_same _ _ _ _ _ _ _ size s r refl refl refl refl refl refl refl

addressed : (size : ℕ) (s : Spec) (r : List ℕ) → address_by (base_of size s) size s r ≡ address_of size s r
unfolding address_by address_of
addressed size s r = rw based refl

read_same : (literal named immediate : Bool) (w : Width) (s : Spec) (r : List ℕ) → eqb s.mode 0 ≡ literal → eqb s.mode 5 ≡ named → (eqb s.mode 8 && eqb s.reg 15) ≡ immediate → operand_by (kind_by Read w s) w s r ≡ read_operand w s r
unfolding kind_by operand_by read_operand
read_same true named immediate w s r e f g = rw e refl
read_same false true immediate w s r e f g = rw (e, f) refl
read_same false false true w s r e f g = rw (e, f, g) refl
read_same false false false w s r e f g = rw (e, f, g) (rw addressed refl)

modified_same : (named : Bool) (w : Width) (s : Spec) (r : List ℕ) → eqb s.mode 5 ≡ named → operand_by (kind_by Modify w s) w s r ≡ modified_operand w s r
unfolding kind_by operand_by modified_operand
modified_same true w s r e = rw e refl
modified_same false w s r e = rw e (rw addressed refl)

written_same : (named : Bool) (w : Width) (s : Spec) (r : List ℕ) → eqb s.mode 5 ≡ named → operand_by (kind_by Write w s) w s r ≡ written_operand w s r
unfolding kind_by operand_by written_operand
written_same true w s r e = rw e refl
written_same false w s r e = rw e (rw addressed refl)

bits_same : (named : Bool) (w : Width) (s : Spec) (r : List ℕ) → eqb s.mode 5 ≡ named → operand_by (kind_by Bits w s) w s r ≡ bits_operand w s r
unfolding kind_by operand_by bits_operand
bits_same true w s r e = rw e refl
bits_same false w s r e = rw e (rw addressed refl)

-- an operand by its kind
pub by_kind : (a : Access) (w : Width) (s : Spec) (r : List ℕ) → operand_by (kind_by a w s) w s r ≡ by_access a w s r
unfolding kind_by operand_by address_operand branch_operand
by_kind Read w s r = read_same _ _ _ w s r refl refl refl
by_kind Modify w s r = modified_same _ w s r refl
by_kind Write w s r = written_same _ w s r refl
by_kind Address w s r = rw addressed refl
by_kind Bits w s r = bits_same _ w s r refl
by_kind Branch w s r = rw plus_low refl

pub kind_access : (a : Access) (w : Width) (s : Spec) → access_of (kind_by a w s) ≡ a
unfolding kind_by
kind_access Read w s =
    let P : Kind → Type 0 = λ k. access_of k ≡ Read in
    if_both P (eqb s.mode 0) _ _ (λ t. refl) (λ t. if_both P (eqb s.mode 5) _ _ (λ t. refl) (λ t. if_both P (eqb s.mode 8 && eqb s.reg 15) _ _ (λ t. refl) (λ t. refl)))
kind_access Modify w s = if_both (λ (k : Kind). access_of k ≡ Modify) (eqb s.mode 5) _ _ (λ t. refl) (λ t. refl)
kind_access Write w s = if_both (λ (k : Kind). access_of k ≡ Write) (eqb s.mode 5) _ _ (λ t. refl) (λ t. refl)
kind_access Address w s = refl
kind_access Bits w s = if_both (λ (k : Kind). access_of k ≡ Bits) (eqb s.mode 5) _ _ (λ t. refl) (λ t. refl)
kind_access Branch w s = refl

both_of : (a b : Bool) → (a && b) ≡ true → (a ≡ true) × (b ≡ true)
both_of true b e = (refl, e)
both_of false b e = cc

literal_fits : (w : Width) (n : ℕ) → n < 64 → n < 256 ^ size_of w
literal_fits Byte n h = omega arith
literal_fits Word n h = omega arith
literal_fits Long n h = omega arith
literal_fits Quad n h = omega arith

named : (s : Spec) → IsFormed s → eqb s.mode 5 ≡ true → s.reg < 15
named s f t = let five : s.mode ≡ 5 = eq_of s.mode 5 t in f.named (omega arith)

-- what the kinds of well-formed operands rest on
pub rests : (a : Access) (w : Width) (s : Spec) → IsLegalOperand a w s → RestsOn (kind_by a w s) w s
unfolding kind_by
rests Read w s h =
    let P : Kind → Type 0 = λ k. RestsOn k w s in
    if_both P (eqb s.mode 0) _ _ (λ t. literal_fits w s.value (h.literal (eq_of s.mode 0 t))) (λ t.
    if_both P (eqb s.mode 5) _ _ (named s h.formed) (λ t.
    if_both P (eqb s.mode 8 && eqb s.reg 15) _ _ (λ t. let both = both_of (eqb s.mode 8) (eqb s.reg 15) t in h.immediate (eq_of s.mode 8 both.0) (eq_of s.reg 15 both.1)) (λ t. (h.formed.register, h.formed.index))))
rests Modify w s h = if_both (λ (k : Kind). RestsOn k w s) (eqb s.mode 5) _ _ (named s h.0) (λ t. (h.0.register, h.0.index))
rests Write w s h = if_both (λ (k : Kind). RestsOn k w s) (eqb s.mode 5) _ _ (named s h.0) (λ t. (h.0.register, h.0.index))
rests Address w s h = (h.0.register, h.0.index)
rests Bits w s h = if_both (λ (k : Kind). RestsOn k w s) (eqb s.mode 5) _ _ (named s h.0) (λ t. (h.0.register, h.0.index))
rests Branch w s h = tt

-- a prepared operand does what the operand does
pub prepared_same : (f : Form) (s : Spec) (k : Kind) (n : ℕ) (r : List ℕ) → k ≡ kind_of f s → n ≡ operand_length f s → operand_by k f.width s (past_own_bytes n r) ≡ operand_of f s r
unfolding operand_of
prepared_same f s k n r e g = rw (e, g) (by_kind f.access f.width s (past_own_bytes (operand_length f s) r))

pub prepared_fits : (f : Form) (s : Spec) (k : Kind) (x : Result (Unit {0}) Told) (value : ℕ) (dest : Dest) → k ≡ kind_of f s → OnOk x (FitsForm (record { access = access_of k; width = f.width }) value dest) → OnOk x (FitsForm f value dest)
prepared_fits f s k x value dest e h = subst (λ (a : Access). OnOk x (FitsForm (record { access = a; width = f.width }) value dest)) (ap access_of e ∙ kind_access f.access f.width s) h
