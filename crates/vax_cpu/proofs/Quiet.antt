-- An instruction that traps, and PROBE, claim nothing for writing.
use Rattle.std.specs.Prelude.{map, replicate, if◌then◌else◌, slice_index}
use Rattle.std.specs.List.{range_with_len}
use Rattle.std.proofs.Common.{◌≡◌, ℕ, zero, suc, ◌+◌, ◌<◌, ◌%◌, ◌&&◌, ◌||◌, Bool, true, false, eqb, ltb, List, [], ◌∷◌, ◌++◌, Ok, get_or, refl, ap, ◌∙◌, sym, subst, arith}
use Rattle.std.proofs.lemmas.Bool.Decides.{nat_tests}
use Rattle.std.proofs.lemmas.List.{get_or-replicate}
use Rattle.std.proofs.lemmas.List.FromFn.{get_or-map-range_with_len}
use Rattle.vv_base.specs.declared.width.Width.{Width}
use Rattle.vv_base.specs.Width.{size_of}
use Rattle.vax_arch.specs.declared.mode.Intent.{Intent}
use Rattle.vax_table.proofs.Targets.{beyond_all}
use Rattle.vax_table.specs.declared.act.Sens.{Sens}
use Rattle.vax_table.specs.declared.decoded.Spec.{Spec}
use Rattle.vax_table.specs.declared.evaluation.Operands.{Operands}
use Rattle.vax_table.specs.declared.forms.Access.{Access}
use Rattle.vax_table.specs.declared.forms.Access.TheVariants.{Read, Modify, Write, Address, Bits, Branch}
use Rattle.vax_table.specs.declared.forms.Form.{Form}
use Rattle.vax_table.specs.declared.meaning.Operation.{Operation}
use Rattle.vax_table.specs.declared.meaning.Operation.TheVariants as does
use Rattle.vax_table.specs.Claims.{Holds, claims}
use Rattle.vax_table.specs.Fetch.{by_decoding, decided, fetched}
use Rattle.vax_table.specs.Operand.{address_of, address_operand, base_address, bits_operand, branch_operand, by_access, read_operand}
use Rattle.vax_table.specs.AllOperands.{past_own_bytes, forms_in, operand_length, operand_of, operands_from, operands_of, trap_forms, trap_operands, no_operands, with_operand}
use Rattle.vax_table.specs.Operations.{operation_of}
use Rattle.vax_table.specs.Plan.{plan_of}
use Rattle.vax_table.specs.Reading.{Decoding, Whole, Short, Unknown, Reserved, decoded_at}
use Rattle.vax_table.specs.Rows.{row_of}
use Rattle.vax_table.specs.Interaction.{Interaction, Space, outcome, ◌>>=◌}
use Rattle.vax_table.specs.Spelling.{Instruction}
use Rattle.vax_table.specs.Whole.{Act, Meant, Plain, Probes, Traps, instruction, trapping}
use Rattle.vax_table.specs.Acted.{acted, acted_by, plain_meaning, probing, is_always_done}
use Rattle.vax_table.proofs.Acted.{instruction_is}
use Rattle.vax_table.proofs.Claims.{holds-bind, holds_always, holds_made}
use Rattle.vax_table.proofs.Tests.{if_both, le_of}

-- nothing is claimed
abbrev pub Nothing : {A : Type 0} → List ℕ → A → Type 0
Nothing cs a = cs ≡ []

at_none : {A : Type 0} (P : List ℕ → A → Type 0) (cs : List ℕ) (script : Interaction A) → cs ≡ [] → Holds P [] script → Holds P cs script
at_none P cs script e h = subst (λ (zs : List ℕ). Holds P zs script) (sym e) h

-- one interaction and then another
both : {A B : Type 0} (m : Interaction A) (g : A → Interaction B) → Holds Nothing [] m → ((a : A) → Holds Nothing [] (g a)) → Holds Nothing [] (m >>= g)
both m g h k = holds-bind Nothing Nothing [] m g h (λ ds a e. at_none Nothing ds (g a) e (k a))

base_quiet : (size : ℕ) (s : Spec) (r : List ℕ) → Holds Nothing [] (base_address size s r)
unfolding base_address
base_quiet size s r =
    if_both (Holds Nothing []) (eqb s.mode 6) _ _ (λ t. refl) (λ t.
    if_both (Holds Nothing []) (eqb s.mode 7) _ _ (λ t. refl) (λ t.
    if_both (Holds Nothing []) (eqb s.mode 8 && eqb s.reg 15) _ _ (λ t. refl) (λ t.
    if_both (Holds Nothing []) (eqb s.mode 8) _ _ (λ t. refl) (λ t.
    if_both (Holds Nothing []) (eqb s.mode 9 && eqb s.reg 15) _ _ (λ t. refl) (λ t.
    if_both (Holds Nothing []) (eqb s.mode 9) _ _ (λ t v. refl) (λ t.
    if_both (Holds Nothing []) (eqb (s.mode % 2) 0) _ _ (λ t. refl) (λ t v. refl)))))))

address_quiet : (size : ℕ) (s : Spec) (r : List ℕ) → Holds Nothing [] (address_of size s r)
unfolding address_of
address_quiet size s r = both (base_address size s r) _ (base_quiet size s r) (λ p. refl)

read_quiet : (w : Width) (s : Spec) (r : List ℕ) → Holds Nothing [] (read_operand w s r)
unfolding read_operand
read_quiet w s r =
    if_both (Holds Nothing []) (eqb s.mode 0) _ _ (λ t. refl) (λ t.
    if_both (Holds Nothing []) (eqb s.mode 5) _ _ (λ t. refl) (λ t.
    if_both (Holds Nothing []) (eqb s.mode 8 && eqb s.reg 15) _ _ (λ t. refl) (λ t.
    both (address_of (size_of w) s r) _ (address_quiet (size_of w) s r) (λ p v. refl))))

taken_quiet : (w : Width) (s : Spec) (r : List ℕ) → Holds Nothing [] (address_operand w s r)
unfolding address_operand
taken_quiet w s r = both (address_of (size_of w) s r) _ (address_quiet (size_of w) s r) (λ p. refl)

bits_quiet : (w : Width) (s : Spec) (r : List ℕ) → Holds Nothing [] (bits_operand w s r)
unfolding bits_operand
bits_quiet w s r = if_both (Holds Nothing []) (eqb s.mode 5) _ _ (λ t. refl) (λ t. both (address_of (size_of w) s r) _ (address_quiet (size_of w) s r) (λ p. refl))

branch_quiet : (w : Width) (s : Spec) (r : List ℕ) → Holds Nothing [] (branch_operand w s r)
unfolding branch_operand
branch_quiet w s r = refl

-- neither modified nor written
is_quiet : Access → Bool
is_quiet Read = true
is_quiet Modify = false
is_quiet Write = false
is_quiet Address = true
is_quiet Bits = true
is_quiet Branch = true

are_quiet : List Form → Bool
are_quiet [] = true
are_quiet (f ∷ fs) = is_quiet f.access && are_quiet fs

no_yes : false ≡ true → ⊥
no_yes e = cc

and_both : (a b : Bool) → (a && b) ≡ true → (a ≡ true) × (b ≡ true)
and_both true b e = (refl, e)
and_both false b e = cc

access_quiet : (a : Access) (w : Width) (s : Spec) (r : List ℕ) → is_quiet a ≡ true → Holds Nothing [] (by_access a w s r)
unfolding is_quiet
access_quiet Read w s r e = read_quiet w s r
access_quiet Modify w s r e = absurd (no_yes e)
access_quiet Write w s r e = absurd (no_yes e)
access_quiet Address w s r e = taken_quiet w s r
access_quiet Bits w s r e = bits_quiet w s r
access_quiet Branch w s r e = branch_quiet w s r

operand_quiet : (f : Form) (s : Spec) (r : List ℕ) → is_quiet f.access ≡ true → Holds Nothing [] (operand_of f s r)
unfolding operand_of
operand_quiet f s r e = access_quiet f.access f.width s (past_own_bytes (operand_length f s) r) e

from_quiet : (i : ℕ) (fs : List Form) (ss : List Spec) (o : Operands) → are_quiet fs ≡ true → Holds Nothing [] (operands_from i fs ss o)
unfolding are_quiet
from_quiet i [] ss o e = refl
from_quiet i (f ∷ fs) [] o e = refl
from_quiet i (f ∷ fs) (s ∷ ss) o e =
    let parts = and_both (is_quiet f.access) (are_quiet fs) e in
    both (operand_of f s o.r) _ (operand_quiet f s o.r parts.0) (λ x. from_quiet (i + 1) fs ss (with_operand i o x) parts.1)

-- the operands of what traps, and of PROBE
is_silent : Operation → (forms traps : List Form) → Bool
is_silent (does.Sensitive op) forms traps = are_quiet traps
is_silent (does.Probe intent) forms traps = are_quiet forms
is_silent operation forms traps = true

-- all 256 at once, by computation
all_silent : map (λ n. is_silent (operation_of n) (forms_in (row_of n)) (trap_forms n)) (range_with_len 0 256) ≡ replicate 256 true
unfolding operation_of row_of is_silent are_quiet is_quiet
all_silent = refl

silent_below : (n : ℕ) → n < 256 → is_silent (operation_of n) (forms_in (row_of n)) (trap_forms n) ≡ true
silent_below n below =
    sym (get_or-map-range_with_len (λ k. is_silent (operation_of k) (forms_in (row_of k)) (trap_forms k)) 0 256 n n true below (omega arith))
    ∙ ap (λ (xs : List Bool). get_or xs n true) all_silent
    ∙ get_or-replicate 256 n true true below

silent_by : (n : ℕ) (b : Bool) → ltb n 256 ≡ b → is_silent (operation_of n) (forms_in (row_of n)) (trap_forms n) ≡ true
unfolding is_silent
silent_by n true e = silent_below n (grind (arith, nat_tests))
silent_by n false e = rw (beyond_all n (le_of n 256 e)) refl

silent : (n : ℕ) → is_silent (operation_of n) (forms_in (row_of n)) (trap_forms n) ≡ true
silent n = silent_by n (ltb n 256) refl

-- of an instruction that was found: where it traps or is PROBE, nothing is claimed
abbrev pub ActClaims : List ℕ → Act → Type 0
ActClaims cs (Plain e) = Unit {0}
ActClaims cs (Traps t) = cs ≡ []
ActClaims cs (Probes intent o) = cs ≡ []

abbrev pub MeantClaims : List ℕ → Meant → Type 0
MeantClaims cs m = ActClaims cs m.act

trap_holds : (op : Sens) (d : Instruction) (r : List ℕ) → are_quiet (trap_forms d.opcode) ≡ true → Holds MeantClaims [] (trapping op d r)
unfolding trap_operands
trap_holds op d r q = holds-bind Nothing MeantClaims [] (trap_operands d r) _ (from_quiet 0 (trap_forms d.opcode) d.specs (no_operands (past_own_bytes (if d.wait then 2 else 1) r)) q) (λ ds o h. h)

plain_holds : (psl : ℕ) (d : Instruction) (r : List ℕ) → Holds MeantClaims [] (plain_meaning psl d r)
plain_holds psl d r = holds-bind (λ cs e. Unit {0}) MeantClaims [] (plan_of psl d r) _ (holds_always (λ cs e. Unit {0}) [] (plan_of psl d r) (λ ds e. tt)) (λ ds e h. tt)

probe_holds : (intent : Intent) (d : Instruction) (r : List ℕ) → are_quiet (forms_in (row_of d.opcode)) ≡ true → Holds MeantClaims [] (probing intent d r)
unfolding operands_of
probe_holds intent d r q = holds-bind Nothing MeantClaims [] (operands_of d r) _ (from_quiet 0 (forms_in (row_of d.opcode)) d.specs (no_operands (past_own_bytes (if d.wait then 2 else 1) r)) q) (λ ds o h. h)

by_operation : (is_kernel : Bool) (psl : ℕ) (operation : Operation) (d : Instruction) (r : List ℕ) → is_silent operation (forms_in (row_of d.opcode)) (trap_forms d.opcode) ≡ true → Holds MeantClaims [] (acted_by is_kernel psl operation d r)
unfolding is_silent
by_operation is_kernel psl (does.Sensitive op) d r q = if_both (Holds MeantClaims []) (is_always_done op || is_kernel) _ _ (λ t. trap_holds op d r q) (λ t. tt)
by_operation is_kernel psl (does.Probe intent) d r q = probe_holds intent d r q
by_operation is_kernel psl operation d r q = plain_holds psl d r

acted_holds : (is_kernel : Bool) (psl : ℕ) (d : Instruction) (r : List ℕ) → Holds MeantClaims [] (acted is_kernel psl d r)
unfolding acted
acted_holds is_kernel psl d r = by_operation is_kernel psl (operation_of d.opcode) d r (silent d.opcode)

answer_holds : (more : List ℕ → Interaction Instruction) (at : ℕ) (bytes : List ℕ) (a : Decoding) → ((bs : List ℕ) → Holds Nothing [] (more bs)) → Holds Nothing [] (by_decoding more at bytes a)
answer_holds more at bytes (Whole d rest) h = refl
answer_holds more at bytes Short h = λ b. h (bytes ++ b ∷ [])
answer_holds more at bytes Unknown h = tt
answer_holds more at bytes Reserved h = tt

decided_holds : (looks at : ℕ) (bytes : List ℕ) → Holds Nothing [] (decided looks at bytes)
unfolding decided
decided_holds zero at bytes = tt
decided_holds (suc looks) at bytes = answer_holds (decided looks at) at bytes (decoded_at bytes) (λ bs. decided_holds looks at bs)

fetched_holds : (at : ℕ) → Holds Nothing [] (fetched at)
unfolding fetched
fetched_holds at = decided_holds 22 at []

whole_holds : (is_kernel : Bool) (psl : ℕ) (r : List ℕ) → Holds MeantClaims [] (instruction is_kernel psl r)
whole_holds is_kernel psl r =
    subst (Holds MeantClaims []) (sym (instruction_is is_kernel psl r)) (holds-bind Nothing MeantClaims [] (fetched (slice_index r 15)) _ (fetched_holds (slice_index r 15))
    (λ cs d e. at_none MeantClaims cs (acted is_kernel psl d r) e (acted_holds is_kernel psl d r)))

-- what an instruction that was found claims
pub found_claims : (is_kernel : Bool) (psl : ℕ) (r : List ℕ) (s : Space) (m : Meant) → outcome s (instruction is_kernel psl r) ≡ Ok m → MeantClaims (claims s (instruction is_kernel psl r)) m
found_claims is_kernel psl r s m h = holds_made MeantClaims s [] (instruction is_kernel psl r) m (whole_holds is_kernel psl r) h
