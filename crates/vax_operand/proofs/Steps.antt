-- One operand more, in the words of the definition.
use Rattle.std.proofs.Common.{◌≡◌, ◌≢◌, ℕ, zero, suc, ◌+◌, ◌<◌, List, [], ◌∷◌, length, map, get_or, drop, Some, Result, Ok, Err, refl, ap, ◌∙◌, sym, subst, arith, add-one, below_more, get_or-set_other, OnOk, slice_get, slice_index, slice_index_or, slice_set}
use Rattle.std.specs.Prelude.{if◌then◌else◌, IfOk}
use Rattle.vax_table.specs.declared.act.Dest.{Dest}
use Rattle.vax_table.specs.declared.act.Dest.TheVariants.{Nowhere}
use Rattle.vax_table.specs.declared.decoded.Spec.{Spec}
use Rattle.vax_table.specs.declared.evaluation.Evaluated.{Evaluated}
use Rattle.vax_table.specs.declared.evaluation.Operands.{Operands}
use Rattle.vax_table.specs.declared.evaluation.Trouble.{Trouble as Told}
use Rattle.vax_table.specs.declared.forms.Form.{Form}
use Rattle.vax_table.specs.Operand.{plus}
use Rattle.vax_table.specs.AllOperands.{past_own_bytes, forms_in, no_operands, operand_of, operands_from, operands_of, trap_forms, with_operand}
use Rattle.vax_table.specs.Rows.{row_of}
use Rattle.vax_table.specs.Interaction.{Interaction, Space, Trouble, outcome}
use Rattle.vax_table.specs.Spelling.{Instruction, IsWellFormed}
use Rattle.vax_table.specs.LegalOperands.{AreLegalOperands, FitsForm, IsRegister}
use Rattle.vax_table.specs.Troubles.{with_trouble}
use Rattle.vax_operand.specs.declared.prepared.Operand.{Operand}
use Rattle.vax_operand.specs.Left.{left}
use Rattle.vax_table.proofs.Claims.{holds_made}
use Rattle.vax_table.proofs.NextPc.{operands_go}
use Rattle.vax_table.proofs.Scripts.{outcome-bind}

abbrev pub forms_of : List Operand → List Form
forms_of xs = map (λ x. x.form) xs

abbrev pub specs_of : List Operand → List Spec
specs_of xs = map (λ x. x.spec) xs

-- the operands from a number on, of which these are left
abbrev pub left_from : ℕ → List Operand → Operands → Interaction Operands
left_from i xs o = operands_from i (map (λ x. x.form) xs) (map (λ x. x.spec) xs) o

next : (s : Space) (j i : ℕ) (xs : List Operand) (o : Operands) (d : Operand) (e : Evaluated) → i < length xs →
    Ok e ≡ outcome s (operand_of (get_or xs i d).form (get_or xs i d).spec o.r) → outcome s (left_from (j + 1) (drop (suc i) xs) (with_operand j o e)) ≡ outcome s (left_from j (drop i xs) o)
next s j i [] o d e h is = absurd (omega arith)
next s j zero (x ∷ xs) o d e h is = rw (outcome-bind, ← is) refl
next s j (suc i) (x ∷ xs) o d e h is = next s j i xs o d e (omega arith) is

stop : (s : Space) (j i : ℕ) (xs : List Operand) (o : Operands) (d : Operand) (t : Trouble) → i < length xs →
    Err t ≡ outcome s (operand_of (get_or xs i d).form (get_or xs i d).spec o.r) → Err t ≡ outcome s (left_from j (drop i xs) o)
stop s j i [] o d t h is = absurd (omega arith)
stop s j zero (x ∷ xs) o d t h is = rw (outcome-bind, ← is) refl
stop s j (suc i) (x ∷ xs) o d t h is = stop s j i xs o d t (omega arith) is

-- an operand that completes
pub operands_next : (s : Space) (i : ℕ) (xs : List Operand) (o : Operands) (x : Operand) (e : Evaluated) → i < length xs → x ≡ get_or xs i x →
    Ok e ≡ outcome s (operand_of x.form x.spec o.r) → outcome s (left_from (i + 1) (drop (i + 1) xs) (with_operand i o e)) ≡ outcome s (left_from i (drop i xs) o)
operands_next s i xs o x e h there is =
    subst (λ (n : ℕ). outcome s (left_from (i + 1) (drop n xs) (with_operand i o e)) ≡ outcome s (left_from i (drop i xs) o)) (sym (add-one i))
    (next s i i xs o x e h (subst (λ (y : Operand). Ok e ≡ outcome s (operand_of y.form y.spec o.r)) there is))

-- an operand that has trouble
pub operands_stop : (s : Space) (i : ℕ) (xs : List Operand) (o : Operands) (x : Operand) (t : Trouble) → i < length xs → x ≡ get_or xs i x →
    Err t ≡ outcome s (operand_of x.form x.spec o.r) → Err t ≡ outcome s (left_from i (drop i xs) o)
operands_stop s i xs o x t h there is = stop s i i xs o x t h (subst (λ (y : Operand). Err t ≡ outcome s (operand_of y.form y.spec o.r)) there is)

-- what is put into a list, or left out beyond its end
value_put : (xs : List ℕ) (i v most : ℕ) → v < most → slice_index (slice_set xs i v) i < most
value_put [] i v most h = omega arith
value_put (x ∷ xs) zero v most h = h
value_put (x ∷ xs) (suc i) v most h = value_put xs i v most h

dest_put : (xs : List Dest) (i : ℕ) (d : Dest) → IsRegister d → IsRegister (slice_index_or (slice_set xs i d) i Nowhere)
dest_put [] i d h = tt
dest_put (x ∷ xs) zero d h = h
dest_put (x ∷ xs) (suc i) d h = dest_put xs i d h

form_at : (xs : List Operand) (i : ℕ) (d : Operand) (f : Form) → slice_get (map (λ x. x.form) xs) i ≡ Some f → (get_or xs i d).form ≡ f
form_at [] i d f e = cc
form_at (x ∷ xs) zero d f e = cc
form_at (x ∷ xs) (suc i) d f e = form_at xs i d f e

-- the operands so far and one more
pub fits_next : (xs : List Operand) (o : Operands) (e : Evaluated) (i : ℕ) (d : Operand) → d ≡ get_or xs i d →
    ((k : ℕ) (f : Form) → k < i → slice_get (map (λ x. x.form) xs) k ≡ Some f → FitsForm f (slice_index o.values k) (slice_index_or o.dests k Nowhere)) → FitsForm d.form e.value e.dest →
    (k : ℕ) (f : Form) → k < i + 1 → slice_get (map (λ x. x.form) xs) k ≡ Some f → FitsForm f (slice_index (with_operand i o e).values k) (slice_index_or (with_operand i o e).dests k Nowhere)
fits_next xs o e i d there before now k f h g =
    let P : ℕ → Type 0 = λ n. (f : Form) → slice_get (map (λ x. x.form) xs) n ≡ Some f → FitsForm f (slice_index (slice_set o.values i e.value) n) (slice_index_or (slice_set o.dests i e.dest) n Nowhere) in
    below_more P i
    (λ n low x is. let ne : n ≢ i = omega arith in let p = before n x low is in (rw get_or-set_other p.0, rw get_or-set_other p.1))
    (λ x is. let p = subst (λ (y : Form). FitsForm y e.value e.dest) (ap (λ (y : Operand). y.form) there ∙ form_at xs i d x is) now in (value_put o.values i e.value _ p.0, dest_put o.dests i e.dest p.1))
    k h f g

-- a form that exists has a number below their count
pub within : (xs : List Operand) (k : ℕ) (f : Form) → slice_get (map (λ x. x.form) xs) k ≡ Some f → k < length xs
within [] k f e = cc
within (x ∷ xs) zero f e = omega arith
within (x ∷ xs) (suc k) f e = let h : k < length xs = within xs k f e in omega arith

-- after its operands PC is after the instruction's bytes
pub next_pc : (s : Space) (d : Instruction) (r : List ℕ) (x : Result (Unit {0}) Told) (o : Operands) → IsWellFormed d → 15 < length r → left x o ≡ outcome s (operands_of d r) → OnOk x (slice_index o.r 15 ≡ plus (slice_index r 15) d.length)
next_pc s d r (Ok u) o h room e = holds_made (λ cs p. slice_index p.r 15 ≡ plus (slice_index r 15) d.length) s [] (operands_of d r) o (operands_go d r h room) (sym e)
next_pc s d r (Err t) o h room e = tt

pub next_pc_told : (s : Space) (d : Instruction) (r : List ℕ) (x : Result Operands Told) → IsWellFormed d → 15 < length r → with_trouble x ≡ outcome s (operands_of d r) → IfOk x (λ o. slice_index o.r 15 ≡ plus (slice_index r 15) d.length)
next_pc_told s d r (Ok o) h room e = holds_made (λ cs p. slice_index p.r 15 ≡ plus (slice_index r 15) d.length) s [] (operands_of d r) o (operands_go d r h room) (sym e)
next_pc_told s d r (Err t) h room e = tt

-- the operands of its opcode's forms are those of the instruction
pub of_forms : (s : Space) (d : Instruction) (r : List ℕ) (forms : List Form) (specs : List Spec) (start : Operands) (x : Result Operands Trouble) → forms ≡ forms_in (row_of d.opcode) → specs ≡ d.specs →
    start ≡ no_operands (past_own_bytes (if d.wait then 2 else 1) r) → x ≡ outcome s (operands_from 0 forms specs start) → x ≡ outcome s (operands_of d r)
unfolding operands_of
of_forms s d r forms specs start x f g h t = t ∙ rw (f, g, h) refl

-- MFPR's destination is sound also as one from which bits are counted
mfpr_on : (specs : List Spec) → AreLegalOperands (forms_in (row_of 0xdb)) specs → AreLegalOperands (trap_forms 0xdb) specs
unfolding row_of
mfpr_on [] h = absurd h
mfpr_on (a ∷ []) h = absurd h.1
mfpr_on (a ∷ (b ∷ [])) h = h
mfpr_on (a ∷ (b ∷ (c ∷ ss))) h = absurd h.1.1

pub mfpr_stands : (opcode : ℕ) (all specs : List Spec) → opcode ≡ 0xdb → specs ≡ all → AreLegalOperands (forms_in (row_of opcode)) all → AreLegalOperands (trap_forms 0xdb) specs
mfpr_stands opcode all specs is s h =
    let there : AreLegalOperands (forms_in (row_of 0xdb)) all = subst (λ (n : ℕ). AreLegalOperands (forms_in (row_of n)) all) is h in
    rw s (mfpr_on all there)
