-- After its operands an instruction's PC is after its bytes.
use Rattle.std.proofs.Common.{◌≡◌, ◌≢◌, ℕ, ◌+◌, ◌*◌, ◌%◌, ◌^◌, ◌<◌, ◌&&◌, true, false, eqb, List, [], ◌∷◌, length, Option, Some, None, refl, ap, ◌∙◌, sym, subst, arith, eq-eqb, length-append, get_or-set_other, get_or-set_same, slice_index, slice_set}
use Rattle.std.specs.Prelude.{if◌then◌else◌}
use Rattle.std.proofs.lemmas.Bool.{ne_eqb}
use Rattle.std.proofs.Math.ListN.{length-set}
use Rattle.vv_base.specs.declared.width.Width.{Width}
use Rattle.vv_base.specs.Width.{size_of}
use Rattle.vax_table.specs.declared.decoded.Spec.{Spec}
use Rattle.vax_table.specs.declared.evaluation.Evaluated.{Evaluated}
use Rattle.vax_table.specs.declared.evaluation.Operands.{Operands}
use Rattle.vax_table.specs.declared.evaluation.Place.{Place}
use Rattle.vax_table.specs.declared.forms.Access.{Access}
use Rattle.vax_table.specs.declared.forms.Access.TheVariants.{Read, Modify, Write, Address, Bits, Branch}
use Rattle.vax_table.specs.declared.forms.Form.{Form}
use Rattle.vax_table.specs.Claims.{Holds}
use Rattle.vax_table.specs.Operand.{plus, base_address, address_of, indexed_by, read_operand, modified_operand, written_operand, address_operand, bits_operand, branch_operand, by_access}
use Rattle.vax_table.specs.AllOperands.{past_own_bytes, operand_length, operand_of, with_operand, operands_from, no_operands, forms_in, operands_of}
use Rattle.vax_table.specs.Reading.{is_branch}
use Rattle.vax_table.specs.Rows.{OpcodeEntry, row_of}
use Rattle.vax_table.specs.Spelled.{value_size}
use Rattle.vax_table.specs.Spelling.{bytes_of, unindexed, Displaces, byte, byte_deferred, word, word_deferred, long, long_deferred, Specifier, literal, register, register_deferred, autodecrement, autoincrement, immediate, autoincrement_deferred, absolute, displacement, SpellsOperand, specifier, indexed, branch, Operands as SpelledOperands, Instruction, wait, of_row, IsWellFormed}
use Rattle.vax_table.specs.LegalOperands.{IsFormed, IsLegalOperand, AreLegalOperands}
use Rattle.vax_table.proofs.Bytes.{length-bytes_of}
use Rattle.vax_table.proofs.Claims.{holds-bind, holds_then}
use Rattle.vax_table.proofs.Standings.{well_formed}
use Rattle.vax_table.proofs.Tests.{if_both, eq_of, no_branch}

-- registers with the same PC
abbrev Keeps : List ℕ → List ℕ → Type 0
Keeps r q = (slice_index q 15 ≡ slice_index r 15) × (length q ≡ length r)

KeepsPlace : List ℕ → List ℕ → Place → Type 0
KeepsPlace r cs p = Keeps r p.r

KeepsOperand : List ℕ → List ℕ → Evaluated → Type 0
KeepsOperand r cs e = Keeps r e.r

set_kept : (r : List ℕ) (n v : ℕ) → n ≢ 15 → Keeps r (slice_set r n v)
set_kept r n v ne = let other : 15 ≢ n = λ e. ne (sym e) in (rw get_or-set_other refl, length-set r n v)

other_than_pc : (mode m reg : ℕ) → (eqb mode m && eqb reg 15) ≡ false → eqb mode m ≡ true → reg ≢ 15
other_than_pc mode m reg both one e =
    let two : eqb reg 15 ≡ true = eq-eqb reg 15 e in
    let yes : (eqb mode m && eqb reg 15) ≡ true = rw (one, two) refl in cc

base_kept : (size : ℕ) (s : Spec) (r cs : List ℕ) → IsFormed s → Holds (KeepsPlace r) cs (base_address size s r)
unfolding base_address KeepsPlace
base_kept size s r cs f =
    let P = Holds (KeepsPlace r) cs in
    if_both P (eqb s.mode 6) _ _ (λ t. (refl, refl)) (λ t.
    if_both P (eqb s.mode 7) _ _ (λ t. let low : s.mode ≡ 7 = eq_of s.mode 7 t in let n : s.reg < 15 = f.named (omega arith) in set_kept r s.reg _ (omega arith)) (λ t.
    if_both P (eqb s.mode 8 && eqb s.reg 15) _ _ (λ t. (refl, refl)) (λ a.
    if_both P (eqb s.mode 8) _ _ (λ t. set_kept r s.reg _ (other_than_pc s.mode 8 s.reg a t)) (λ t.
    if_both P (eqb s.mode 9 && eqb s.reg 15) _ _ (λ t. (refl, refl)) (λ b.
    if_both P (eqb s.mode 9) _ _ (λ t v. set_kept r s.reg _ (other_than_pc s.mode 9 s.reg b t)) (λ t.
    if_both P (eqb (s.mode % 2) 0) _ _ (λ t. (refl, refl)) (λ t v. (refl, refl))))))))

indexed_kept : (r : List ℕ) (size : ℕ) (index : Option ℕ) (p : Place) → Keeps r p.r → Keeps r (indexed_by size index p).r
indexed_kept r size None p h = h
indexed_kept r size (Some x) p h = h

address_kept : (size : ℕ) (s : Spec) (r cs : List ℕ) → IsFormed s → Holds (KeepsPlace r) cs (address_of size s r)
unfolding address_of KeepsPlace
address_kept size s r cs f = holds-bind (KeepsPlace r) (KeepsPlace r) cs (base_address size s r) _ (base_kept size s r cs f) (λ ds p h. indexed_kept r size s.index p h)

access_kept : (a : Access) (w : Width) (s : Spec) (r cs : List ℕ) → IsLegalOperand a w s → Holds (KeepsOperand r) cs (by_access a w s r)
unfolding read_operand modified_operand written_operand address_operand bits_operand branch_operand KeepsOperand KeepsPlace
access_kept Read w s r cs h =
    let P = Holds (KeepsOperand r) cs in
    if_both P (eqb s.mode 0) _ _ (λ t. (refl, refl)) (λ t.
    if_both P (eqb s.mode 5) _ _ (λ t. (refl, refl)) (λ t.
    if_both P (eqb s.mode 8 && eqb s.reg 15) _ _ (λ t. (refl, refl)) (λ t.
    holds-bind (KeepsPlace r) (KeepsOperand r) cs (address_of (size_of w) s r) _ (address_kept (size_of w) s r cs h.formed) (λ ds p k v. k))))
access_kept Modify w s r cs h =
    if_both (Holds (KeepsOperand r) cs) (eqb s.mode 5) _ _ (λ t. (refl, refl)) (λ t.
    holds-bind (KeepsPlace r) (KeepsOperand r) cs (address_of (size_of w) s r) _ (address_kept (size_of w) s r cs h.0) (λ ds p k v. k))
access_kept Write w s r cs h =
    if_both (Holds (KeepsOperand r) cs) (eqb s.mode 5) _ _ (λ t. (refl, refl)) (λ t.
    holds-bind (KeepsPlace r) (KeepsOperand r) cs (address_of (size_of w) s r) _ (address_kept (size_of w) s r cs h.0) (λ ds p k v. k))
access_kept Address w s r cs h = holds-bind (KeepsPlace r) (KeepsOperand r) cs (address_of (size_of w) s r) _ (address_kept (size_of w) s r cs h.0) (λ ds p k. k)
access_kept Bits w s r cs h =
    if_both (Holds (KeepsOperand r) cs) (eqb s.mode 5) _ _ (λ t. (refl, refl)) (λ t.
    holds-bind (KeepsPlace r) (KeepsOperand r) cs (address_of (size_of w) s r) _ (address_kept (size_of w) s r cs h.0) (λ ds p k. k))
access_kept Branch w s r cs h = (refl, refl)

-- registers whose PC went on by k bytes
abbrev Goes : ℕ → List ℕ → List ℕ → Type 0
Goes k r q = (slice_index q 15 ≡ plus (slice_index r 15) k) × (length q ≡ length r)

GoesOperand : ℕ → List ℕ → List ℕ → Evaluated → Type 0
GoesOperand k r cs e = Goes k r e.r

GoesAll : ℕ → List ℕ → List ℕ → Operands → Type 0
GoesAll k r cs o = Goes k r o.r

pub after_goes : (k : ℕ) (r : List ℕ) → 15 < length r → Goes k r (past_own_bytes k r)
after_goes k r h = (rw get_or-set_same refl, length-set r 15 _)

operand_goes : (f : Form) (s : Spec) (r cs : List ℕ) → 15 < length r → IsLegalOperand f.access f.width s → Holds (GoesOperand (operand_length f s) r) cs (operand_of f s r)
unfolding operand_of GoesOperand KeepsOperand
operand_goes f s r cs h stands =
    let k = operand_length f s in
    let g : Goes k r (past_own_bytes k r) = after_goes k r h in
    holds_then (KeepsOperand (past_own_bytes k r)) (GoesOperand k r) cs (operand_of f s r) (access_kept f.access f.width s (past_own_bytes k r) cs stands)
    (λ ds e kept. (kept.0 ∙ g.0, kept.1 ∙ g.1))

-- the bytes of all operands
abbrev all_length : List Form → List Spec → ℕ
all_length [] ss = 0
all_length (f ∷ fs) [] = 0
all_length (f ∷ fs) (s ∷ ss) = operand_length f s + all_length fs ss

from_goes : (i : ℕ) (fs : List Form) (ss : List Spec) (o : Operands) (cs : List ℕ) → AreLegalOperands fs ss → 15 < length o.r → slice_index o.r 15 < 2 ^ 32 → Holds (GoesAll (all_length fs ss) o.r) cs (operands_from i fs ss o)
unfolding GoesAll GoesOperand
from_goes i [] [] o cs all h low = (omega arith, refl)
from_goes i [] (s ∷ ss) o cs all h low = absurd all
from_goes i (f ∷ fs) [] o cs all h low = absurd all
from_goes i (f ∷ fs) (s ∷ ss) o cs all h low =
    let k = operand_length f s in
    let n = all_length fs ss in
    holds-bind (GoesOperand k o.r) (GoesAll (k + n) o.r) cs (operand_of f s o.r) _ (operand_goes f s o.r cs h all.0)
    (λ ds e g.
    let there : slice_index e.r 15 ≡ plus (slice_index o.r 15) k = g.0 in
    let long : length e.r ≡ length o.r = g.1 in
    let under : slice_index e.r 15 < 2 ^ 32 = omega arith in
    holds_then (GoesAll n e.r) (GoesAll (k + n) o.r) ds (operands_from (i + 1) fs ss (with_operand i o e)) (from_goes (i + 1) fs ss (with_operand i o e) ds all.1 (omega arith) under)
    (λ es p q. let step : slice_index p.r 15 ≡ plus (slice_index e.r 15) n = q.0 in let two : plus (plus (slice_index o.r 15) k) n ≡ plus (slice_index o.r 15) (k + n) = omega arith in (step ∙ (ap (λ (x : ℕ). plus x n) there ∙ two), q.1 ∙ long)))

displacement_bytes : (f : Form) (m k n v : ℕ) → Displaces m k → length ((16 * m + n) ∷ bytes_of k v) ≡ 1 + value_size f (unindexed m n v)
unfolding value_size
displacement_bytes f m k n v byte = omega (arith, length-bytes_of 1 v)
displacement_bytes f m k n v byte_deferred = omega (arith, length-bytes_of 1 v)
displacement_bytes f m k n v word = omega (arith, length-bytes_of 2 v)
displacement_bytes f m k n v word_deferred = omega (arith, length-bytes_of 2 v)
displacement_bytes f m k n v long = omega (arith, length-bytes_of 4 v)
displacement_bytes f m k n v long_deferred = omega (arith, length-bytes_of 4 v)

-- a specifier's bytes, and that it has no index
specifier_bytes : (f : Form) (bytes : List ℕ) (s : Spec) → Specifier f bytes s → (length bytes ≡ 1 + value_size f s) × (s.index ≡ None)
unfolding value_size
specifier_bytes f bytes s (literal n h a e g) = rw (e, g) (refl, refl)
specifier_bytes f bytes s (register n h a p e g) = rw (e, g) (refl, refl)
specifier_bytes f bytes s (register_deferred n h e g) = rw (e, g) (refl, refl)
specifier_bytes f bytes s (autodecrement n h e g) = rw (e, g) (refl, refl)
specifier_bytes f bytes s (autoincrement n h e g) = let other : eqb n 15 ≡ false = ne_eqb n 15 (λ i. absurd (omega arith)) in rw (e, g) (rw other refl, refl)
specifier_bytes f bytes s (immediate v h e g) = rw (e, g) (omega (arith, length-bytes_of (size_of f.width) v), refl)
specifier_bytes f bytes s (autoincrement_deferred n h e g) = let other : eqb n 15 ≡ false = ne_eqb n 15 (λ i. absurd (omega arith)) in rw (e, g) (rw other refl, refl)
specifier_bytes f bytes s (absolute v h e g) = rw (e, g) (omega (arith, length-bytes_of 4 v), refl)
specifier_bytes f bytes s (displacement mode k n v d h l e g) = rw (e, g) (displacement_bytes f mode k n v d, refl)

operand_bytes : (f : Form) (bytes : List ℕ) (s : Spec) → SpellsOperand f bytes s → length bytes ≡ operand_length f s
unfolding value_size
operand_bytes f bytes s (specifier n p) = let h = specifier_bytes f bytes s p in rw (no_branch f.access n, h.1) h.0
operand_bytes f bytes s (indexed n x h b rest t low i p e g) =
    let q : length (b ∷ rest) ≡ 1 + value_size f t = (specifier_bytes f (b ∷ rest) t p).0 in
    let v : value_size f (record t { index = Some x }) ≡ value_size f t = refl in
    rw (no_branch f.access n, e, g) (omega arith)
operand_bytes f bytes s (branch a v h e g) = let t : is_branch f.access ≡ true = ap is_branch a in rw (t, e) (length-bytes_of (size_of f.width) v)

operands_bytes : (fs : List Form) (bytes : List ℕ) (ss : List Spec) → SpelledOperands fs bytes ss → length bytes ≡ all_length fs ss
operands_bytes [] bytes [] h = ap length h
operands_bytes [] bytes (s ∷ ss) h = absurd h
operands_bytes (f ∷ fs) bytes [] h = absurd h
operands_bytes (f ∷ fs) bytes (s ∷ ss) h =
    let front : length h.0 ≡ operand_length f s = operand_bytes f h.0 s h.3 in
    let back : length h.1 ≡ all_length fs ss = operands_bytes fs h.1 ss h.4 in
    ap length h.2 ∙ omega (arith, length-append {A = ℕ})

in_row_bytes : (o : Option OpcodeEntry) (e : OpcodeEntry) (specs : List Spec) (n : ℕ) → o ≡ Some e → n ≡ all_length e.operands specs → n ≡ all_length (forms_in o) specs
in_row_bytes None e specs n r h = cc
in_row_bytes (Some g) e specs n r h = let same : e ≡ g = cc in subst (λ (x : OpcodeEntry). n ≡ all_length x.operands specs) same h

abbrev opcode_length : Instruction → ℕ
opcode_length d = if d.wait then 2 else 1

instruction_bytes : (d : Instruction) → IsWellFormed d → d.length ≡ opcode_length d + all_length (forms_in (row_of d.opcode)) d.specs
unfolding row_of
instruction_bytes d h = elim h.1 [
  | wait e g ↦ subst (λ (x : Instruction). x.length ≡ opcode_length x + all_length (forms_in (row_of x.opcode)) x.specs) (sym g) refl
  | of_row e opcode rest specs b n r o f g ↦
      let size : length rest ≡ all_length (forms_in (row_of opcode)) specs = in_row_bytes (row_of opcode) e specs (length rest) r (operands_bytes e.operands rest specs o) in
      let all : length h.0 ≡ 1 + all_length (forms_in (row_of opcode)) specs = ap length f ∙ omega arith in
      subst (λ (x : Instruction). x.length ≡ opcode_length x + all_length (forms_in (row_of x.opcode)) x.specs) (sym g) all
]

-- after the operands of a well-formed instruction PC is after its bytes
pub operands_go : (d : Instruction) (r : List ℕ) → IsWellFormed d → 15 < length r → Holds (λ cs o. slice_index o.r 15 ≡ plus (slice_index r 15) d.length) [] (operands_of d r)
unfolding operands_of GoesAll
operands_go d r h room =
    let k = opcode_length d in
    let n = all_length (forms_in (row_of d.opcode)) d.specs in
    let q : List ℕ = past_own_bytes k r in
    let g : Goes k r q = after_goes k r room in
    let there : slice_index q 15 ≡ plus (slice_index r 15) k = g.0 in
    let size : length q ≡ length r = g.1 in
    let under : slice_index q 15 < 2 ^ 32 = omega arith in
    let bytes : d.length ≡ k + n = instruction_bytes d h in
    holds_then (GoesAll n q) (λ cs o. slice_index o.r 15 ≡ plus (slice_index r 15) d.length) [] (operands_from 0 (forms_in (row_of d.opcode)) d.specs (no_operands q))
    (from_goes 0 (forms_in (row_of d.opcode)) d.specs (no_operands q) [] (well_formed d h) (omega arith) under)
    (λ cs o e. let step : slice_index o.r 15 ≡ plus (slice_index q 15) n = e.0 in let two : plus (plus (slice_index r 15) k) n ≡ plus (slice_index r 15) d.length = omega arith in step ∙ (ap (λ (x : ℕ). plus x n) there ∙ two))
