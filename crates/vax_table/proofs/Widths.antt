-- Operands leave as many registers as there were.
use Rattle.std.proofs.Common.{◌≡◌, ℕ, ◌+◌, ◌%◌, ◌&&◌, eqb, List, [], ◌∷◌, length, Option, Some, None, refl, ◌∙◌, length-set, slice_set}
use Rattle.std.specs.Prelude.{if◌then◌else◌}
use Rattle.vv_base.specs.declared.width.Width.{Width}
use Rattle.vv_base.specs.Width.{size_of}
use Rattle.vax_table.specs.declared.decoded.Spec.{Spec}
use Rattle.vax_table.specs.declared.evaluation.Evaluated.{Evaluated}
use Rattle.vax_table.specs.declared.evaluation.Operands.{Operands}
use Rattle.vax_table.specs.declared.evaluation.Place.{Place}
use Rattle.vax_table.specs.declared.forms.Access.{Access}
use Rattle.vax_table.specs.declared.forms.Access.TheVariants.{Read, Modify, Write, Address, Bits, Branch}
use Rattle.vax_table.specs.declared.forms.Form.{Form}
use Rattle.vax_table.specs.Claims.{Holds}
use Rattle.vax_table.specs.Operand.{base_address, address_of, read_operand, modified_operand, written_operand, address_operand, bits_operand, branch_operand, by_access, indexed_by}
use Rattle.vax_table.specs.AllOperands.{past_own_bytes, operand_length, operand_of, with_operand, operands_from, no_operands, forms_in, operands_of}
use Rattle.vax_table.specs.Rows.{row_of}
use Rattle.vax_table.specs.Spelling.{Instruction}
use Rattle.vax_table.proofs.Claims.{holds-bind}
use Rattle.vax_table.proofs.Tests.{if_both}

abbrev pub PlaceIsWide : ℕ → List ℕ → Place → Type 0
PlaceIsWide m cs p = length p.r ≡ m

abbrev EvaluatedIsWide : ℕ → List ℕ → Evaluated → Type 0
EvaluatedIsWide m cs e = length e.r ≡ m

abbrev pub OperandsAreWide : ℕ → List ℕ → Operands → Type 0
OperandsAreWide m cs o = length o.r ≡ m

pub set_wide : (m : ℕ) (r : List ℕ) (k v : ℕ) → length r ≡ m → length (slice_set r k v) ≡ m
set_wide m r k v h = length-set r k v ∙ h

base_wide : (m size : ℕ) (s : Spec) (r cs : List ℕ) → length r ≡ m → Holds (PlaceIsWide m) cs (base_address size s r)
unfolding base_address
base_wide m size s r cs h =
    let P = Holds (PlaceIsWide m) cs in
    if_both P (eqb s.mode 6) _ _ (λ t. h) (λ t.
    if_both P (eqb s.mode 7) _ _ (λ t. set_wide m r _ _ h) (λ t.
    if_both P (eqb s.mode 8 && eqb s.reg 15) _ _ (λ t. h) (λ t.
    if_both P (eqb s.mode 8) _ _ (λ t. set_wide m r _ _ h) (λ t.
    if_both P (eqb s.mode 9 && eqb s.reg 15) _ _ (λ t. h) (λ t.
    if_both P (eqb s.mode 9) _ _ (λ t v. set_wide m r _ _ h) (λ t.
    if_both P (eqb (s.mode % 2) 0) _ _ (λ t. h) (λ t v. h)))))))

indexed_wide : (m size : ℕ) (x : Option ℕ) (p : Place) → length p.r ≡ m → length (indexed_by size x p).r ≡ m
indexed_wide m size None p h = h
indexed_wide m size (Some x) p h = h

address_wide : (m size : ℕ) (s : Spec) (r cs : List ℕ) → length r ≡ m → Holds (PlaceIsWide m) cs (address_of size s r)
unfolding address_of
address_wide m size s r cs h = holds-bind (PlaceIsWide m) (PlaceIsWide m) cs (base_address size s r) _ (base_wide m size s r cs h) (λ ds p e. indexed_wide m size s.index p e)

read_wide : (m : ℕ) (w : Width) (s : Spec) (r cs : List ℕ) → length r ≡ m → Holds (EvaluatedIsWide m) cs (read_operand w s r)
unfolding read_operand
read_wide m w s r cs h =
    let P = Holds (EvaluatedIsWide m) cs in
    if_both P (eqb s.mode 0) _ _ (λ t. h) (λ t.
    if_both P (eqb s.mode 5) _ _ (λ t. h) (λ t.
    if_both P (eqb s.mode 8 && eqb s.reg 15) _ _ (λ t. h) (λ t.
    holds-bind (PlaceIsWide m) (EvaluatedIsWide m) cs (address_of (size_of w) s r) _ (address_wide m (size_of w) s r cs h) (λ ds p e v. e))))

modified_wide : (m : ℕ) (w : Width) (s : Spec) (r cs : List ℕ) → length r ≡ m → Holds (EvaluatedIsWide m) cs (modified_operand w s r)
unfolding modified_operand
modified_wide m w s r cs h =
    if_both (Holds (EvaluatedIsWide m) cs) (eqb s.mode 5) _ _ (λ t. h) (λ t.
    holds-bind (PlaceIsWide m) (EvaluatedIsWide m) cs (address_of (size_of w) s r) _ (address_wide m (size_of w) s r cs h) (λ ds p e v. e))

written_wide : (m : ℕ) (w : Width) (s : Spec) (r cs : List ℕ) → length r ≡ m → Holds (EvaluatedIsWide m) cs (written_operand w s r)
unfolding written_operand
written_wide m w s r cs h =
    if_both (Holds (EvaluatedIsWide m) cs) (eqb s.mode 5) _ _ (λ t. h) (λ t.
    holds-bind (PlaceIsWide m) (EvaluatedIsWide m) cs (address_of (size_of w) s r) _ (address_wide m (size_of w) s r cs h) (λ ds p e v. e))

taken_wide : (m : ℕ) (w : Width) (s : Spec) (r cs : List ℕ) → length r ≡ m → Holds (EvaluatedIsWide m) cs (address_operand w s r)
unfolding address_operand
taken_wide m w s r cs h = holds-bind (PlaceIsWide m) (EvaluatedIsWide m) cs (address_of (size_of w) s r) _ (address_wide m (size_of w) s r cs h) (λ ds p e. e)

bits_wide : (m : ℕ) (w : Width) (s : Spec) (r cs : List ℕ) → length r ≡ m → Holds (EvaluatedIsWide m) cs (bits_operand w s r)
unfolding bits_operand
bits_wide m w s r cs h =
    if_both (Holds (EvaluatedIsWide m) cs) (eqb s.mode 5) _ _ (λ t. h) (λ t.
    holds-bind (PlaceIsWide m) (EvaluatedIsWide m) cs (address_of (size_of w) s r) _ (address_wide m (size_of w) s r cs h) (λ ds p e. e))

branch_wide : (m : ℕ) (w : Width) (s : Spec) (r cs : List ℕ) → length r ≡ m → Holds (EvaluatedIsWide m) cs (branch_operand w s r)
unfolding branch_operand
branch_wide m w s r cs h = h

access_wide : (m : ℕ) (a : Access) (w : Width) (s : Spec) (r cs : List ℕ) → length r ≡ m → Holds (EvaluatedIsWide m) cs (by_access a w s r)
access_wide m Read w s r cs h = read_wide m w s r cs h
access_wide m Modify w s r cs h = modified_wide m w s r cs h
access_wide m Write w s r cs h = written_wide m w s r cs h
access_wide m Address w s r cs h = taken_wide m w s r cs h
access_wide m Bits w s r cs h = bits_wide m w s r cs h
access_wide m Branch w s r cs h = branch_wide m w s r cs h

operand_wide : (m : ℕ) (f : Form) (s : Spec) (r cs : List ℕ) → length r ≡ m → Holds (EvaluatedIsWide m) cs (operand_of f s r)
unfolding operand_of
operand_wide m f s r cs h = access_wide m f.access f.width s (past_own_bytes (operand_length f s) r) cs (set_wide m r _ _ h)

from_wide : (m i : ℕ) (fs : List Form) (ss : List Spec) (o : Operands) (cs : List ℕ) → length o.r ≡ m → Holds (OperandsAreWide m) cs (operands_from i fs ss o)
from_wide m i [] ss o cs h = h
from_wide m i (f ∷ fs) [] o cs h = h
from_wide m i (f ∷ fs) (s ∷ ss) o cs h = holds-bind (EvaluatedIsWide m) (OperandsAreWide m) cs (operand_of f s o.r) _ (operand_wide m f s o.r cs h) (λ ds e g. from_wide m (i + 1) fs ss (with_operand i o e) ds g)

pub operands_wide : (d : Instruction) (r cs : List ℕ) → Holds (OperandsAreWide (length r)) cs (operands_of d r)
unfolding operands_of
operands_wide d r cs = from_wide (length r) 0 (forms_in (row_of d.opcode)) d.specs (no_operands (past_own_bytes (if d.wait then 2 else 1) r)) cs (set_wide (length r) r _ _ refl)
