-- What operands claim: in their order the bytes of those that are modified or written in memory.
use Rattle.std.proofs.Common.{◌≡◌, ◌≢◌, ℕ, zero, suc, ◌+◌, ◌%◌, ◌<◌, ◌≤◌, ◌&&◌, Bool, true, false, eqb, List, [], ◌∷◌, ◌++◌, length, Some, refl, ap, ◌∙◌, sym, add-zero, append_assoc, append-nil, arith, get_or-set_other, length-set, leb, slice_get, slice_index_or, slice_set}
use Rattle.std.proofs.lemmas.Bool.{leb-true}
use Rattle.std.specs.Prelude.{if◌then◌else◌}
use Rattle.vv_base.specs.declared.width.Width.{Width}
use Rattle.vv_base.specs.Width.{size_of}
use Rattle.vax_table.specs.declared.act.Dest.{Dest}
use Rattle.vax_table.specs.declared.act.Dest.TheVariants.{Nowhere}
use Rattle.vax_table.specs.declared.decoded.Spec.{Spec}
use Rattle.vax_table.specs.declared.evaluation.Evaluated.{Evaluated}
use Rattle.vax_table.specs.declared.evaluation.Operands.{Operands}
use Rattle.vax_table.specs.declared.evaluation.Place.{Place}
use Rattle.vax_table.specs.declared.forms.Access.{Access}
use Rattle.vax_table.specs.declared.forms.Access.TheVariants.{Read, Modify, Write, Address, Bits, Branch}
use Rattle.vax_table.specs.declared.forms.Form.{Form}
use Rattle.vax_table.specs.Claims.{addresses, claims_by, operand_claims, Holds}
use Rattle.vax_table.specs.Operand.{base_address, address_of, read_operand, modified_operand, written_operand, address_operand, bits_operand, branch_operand, by_access}
use Rattle.vax_table.specs.AllOperands.{past_own_bytes, operand_length, operand_of, with_operand, operands_from, no_operands, forms_in, operands_of}
use Rattle.vax_table.specs.Rows.{row_of}
use Rattle.vax_table.specs.Spelling.{Instruction}
use Rattle.vax_table.proofs.Claims.{holds-bind, holds_always, holds_then}
use Rattle.vax_table.proofs.Tests.{if_both}

-- an address claims nothing
Same : List ℕ → List ℕ → Place → Type 0
Same cs ds p = ds ≡ cs

base_holds : (size : ℕ) (s : Spec) (r cs : List ℕ) → Holds (Same cs) cs (base_address size s r)
unfolding base_address Same
base_holds size s r cs =
    let P = Holds (Same cs) cs in
    if_both P (eqb s.mode 6) _ _ (λ t. refl) (λ t.
    if_both P (eqb s.mode 7) _ _ (λ t. refl) (λ t.
    if_both P (eqb s.mode 8 && eqb s.reg 15) _ _ (λ t. refl) (λ t.
    if_both P (eqb s.mode 8) _ _ (λ t. refl) (λ t.
    if_both P (eqb s.mode 9 && eqb s.reg 15) _ _ (λ t. refl) (λ t.
    if_both P (eqb s.mode 9) _ _ (λ t v. append-nil cs) (λ t.
    if_both P (eqb (s.mode % 2) 0) _ _ (λ t. refl) (λ t v. append-nil cs)))))))

address_holds : (size : ℕ) (s : Spec) (r cs : List ℕ) → Holds (Same cs) cs (address_of size s r)
unfolding address_of Same
address_holds size s r cs = holds-bind (Same cs) (Same cs) cs (base_address size s r) _ (base_holds size s r cs) (λ ds p e. e)

-- what an operand adds to what was claimed before
Adds : List ℕ → Access → Width → List ℕ → Evaluated → Type 0
Adds cs a w ds e = ds ≡ cs ++ claims_by a w e.dest

no_more : (cs : List ℕ) → cs ≡ cs ++ []
no_more cs = sym (append-nil cs)

read_holds : (w : Width) (s : Spec) (r cs : List ℕ) → Holds (Adds cs Read w) cs (read_operand w s r)
unfolding read_operand Adds Same
read_holds w s r cs =
    let P = Holds (Adds cs Read w) cs in
    if_both P (eqb s.mode 0) _ _ (λ t. no_more cs) (λ t.
    if_both P (eqb s.mode 5) _ _ (λ t. no_more cs) (λ t.
    if_both P (eqb s.mode 8 && eqb s.reg 15) _ _ (λ t. no_more cs) (λ t.
    holds-bind (Same cs) (Adds cs Read w) cs (address_of (size_of w) s r) _ (address_holds (size_of w) s r cs) (λ ds p e v. ap (λ (zs : List ℕ). zs ++ []) e))))

modified_holds : (w : Width) (s : Spec) (r cs : List ℕ) → Holds (Adds cs Modify w) cs (modified_operand w s r)
unfolding modified_operand Adds Same
modified_holds w s r cs =
    if_both (Holds (Adds cs Modify w) cs) (eqb s.mode 5) _ _ (λ t. no_more cs) (λ t.
    holds-bind (Same cs) (Adds cs Modify w) cs (address_of (size_of w) s r) _ (address_holds (size_of w) s r cs)
    (λ ds p e v. ap (λ (zs : List ℕ). zs ++ addresses (size_of w) p.at) e))

written_holds : (w : Width) (s : Spec) (r cs : List ℕ) → Holds (Adds cs Write w) cs (written_operand w s r)
unfolding written_operand Adds Same
written_holds w s r cs =
    if_both (Holds (Adds cs Write w) cs) (eqb s.mode 5) _ _ (λ t. no_more cs) (λ t.
    holds-bind (Same cs) (Adds cs Write w) cs (address_of (size_of w) s r) _ (address_holds (size_of w) s r cs)
    (λ ds p e v. ap (λ (zs : List ℕ). zs ++ addresses (size_of w) p.at) e))

taken_holds : (w : Width) (s : Spec) (r cs : List ℕ) → Holds (Adds cs Address w) cs (address_operand w s r)
unfolding address_operand Adds Same
taken_holds w s r cs = holds-bind (Same cs) (Adds cs Address w) cs (address_of (size_of w) s r) _ (address_holds (size_of w) s r cs) (λ ds p e. e ∙ no_more cs)

bits_holds : (w : Width) (s : Spec) (r cs : List ℕ) → Holds (Adds cs Bits w) cs (bits_operand w s r)
unfolding bits_operand Adds Same
bits_holds w s r cs =
    if_both (Holds (Adds cs Bits w) cs) (eqb s.mode 5) _ _ (λ t. no_more cs) (λ t.
    holds-bind (Same cs) (Adds cs Bits w) cs (address_of (size_of w) s r) _ (address_holds (size_of w) s r cs) (λ ds p e. e ∙ no_more cs))

branch_holds : (w : Width) (s : Spec) (r cs : List ℕ) → Holds (Adds cs Branch w) cs (branch_operand w s r)
unfolding branch_operand Adds
branch_holds w s r cs = no_more cs

access_holds : (a : Access) (w : Width) (s : Spec) (r cs : List ℕ) → Holds (Adds cs a w) cs (by_access a w s r)
access_holds Read w s r cs = read_holds w s r cs
access_holds Modify w s r cs = modified_holds w s r cs
access_holds Write w s r cs = written_holds w s r cs
access_holds Address w s r cs = taken_holds w s r cs
access_holds Bits w s r cs = bits_holds w s r cs
access_holds Branch w s r cs = branch_holds w s r cs

operand_holds : (f : Form) (s : Spec) (r cs : List ℕ) → Holds (Adds cs f.access f.width) cs (operand_of f s r)
unfolding operand_of
operand_holds f s r cs = access_holds f.access f.width s (past_own_bytes (operand_length f s) r) cs

nowhere : (a : Access) (w : Width) → claims_by a w Nowhere ≡ []
nowhere Read w = refl
nowhere Modify w = refl
nowhere Write w = refl
nowhere Address w = refl
nowhere Bits w = refl
nowhere Branch w = refl

-- the destinations from number i on are nowhere yet
abbrev AreOpen : ℕ → List Dest → Type 0
AreOpen i dests = (k : ℕ) → i ≤ k → slice_index_or dests k Nowhere ≡ Nowhere

open_claims : (fs : List Form) (dests : List Dest) → AreOpen 0 dests → operand_claims fs dests ≡ []
open_claims [] dests h = refl
open_claims (f ∷ fs) [] h = refl
open_claims (f ∷ fs) (d ∷ ds) h =
    let here : d ≡ Nowhere = h 0 (omega arith) in
    let rest : operand_claims fs ds ≡ [] = open_claims fs ds (λ k g. h (suc k) (omega arith)) in
    rw (here, rest, nowhere f.access f.width) refl

-- the next operand adds its own claims
put_claims : (fs : List Form) (i : ℕ) (dests : List Dest) (f : Form) (d : Dest) → i < length dests → slice_get fs i ≡ Some f → AreOpen i dests → operand_claims fs (slice_set dests i d) ≡ operand_claims fs dests ++ claims_by f.access f.width d
put_claims [] i dests f d within is h = cc
put_claims (g ∷ fs) i [] f d within is h = absurd (omega arith)
put_claims (g ∷ fs) zero (x ∷ xs) f d within is h =
    let same : g ≡ f = cc in
    let here : x ≡ Nowhere = h 0 (omega arith) in
    let rest : operand_claims fs xs ≡ [] = open_claims fs xs (λ k q. h (suc k) (omega arith)) in
    rw (here, rest, nowhere g.access g.width, append-nil) (ap (λ (z : Form). claims_by z.access z.width d) same)
put_claims (g ∷ fs) (suc i) (x ∷ xs) f d within is h =
    ap (λ (zs : List ℕ). claims_by g.access g.width x ++ zs) (put_claims fs i xs f d (omega arith) is (λ k q. h (suc k) (omega arith)))
    ∙ sym (append_assoc (claims_by g.access g.width x) (operand_claims fs xs) (claims_by f.access f.width d))

put_open : (i : ℕ) (dests : List Dest) (d : Dest) → AreOpen i dests → AreOpen (i + 1) (slice_set dests i d)
put_open i dests d h = λ k g. let ne : k ≢ i = omega arith in rw get_or-set_other (h k (omega arith))

-- what was claimed so far is what these operands claim
abbrev pub AreClaimed : List Form → List ℕ → Operands → Type 0
AreClaimed forms cs o = cs ≡ operand_claims forms o.dests

added : (all : List Form) (i : ℕ) (f : Form) (o : Operands) (e : Evaluated) (cs ds : List ℕ) → slice_get all i ≡ Some f → i < length o.dests → AreOpen i o.dests → Adds cs f.access f.width ds e → AreClaimed all cs o → AreClaimed all ds (with_operand i o e)
unfolding Adds
added all i f o e cs ds at within clear g h =
    g ∙ ap (λ (zs : List ℕ). zs ++ claims_by f.access f.width e.dest) h ∙ sym (put_claims all i o.dests f e.dest within at clear)

from_holds : (all : List Form) (i : ℕ) (fs : List Form) (ss : List Spec) (o : Operands) (cs : List ℕ) → ((k : ℕ) → slice_get fs k ≡ slice_get all (i + k)) → i + length fs ≤ length o.dests → AreOpen i o.dests → AreClaimed all cs o → Holds (AreClaimed all) cs (operands_from i fs ss o)
from_holds all i [] ss o cs at room clear h = h
from_holds all i (f ∷ fs) [] o cs at room clear h = h
from_holds all i (f ∷ fs) (s ∷ ss) o cs at room clear h =
    let head : slice_get all i ≡ Some f = sym (at 0 ∙ ap (slice_get all) (add-zero i)) in
    holds-bind (Adds cs f.access f.width) (AreClaimed all) cs (operand_of f s o.r) _ (operand_holds f s o.r cs)
    (λ ds e g. from_holds all (i + 1) fs ss (with_operand i o e) ds
    (λ k. let n : i + suc k ≡ (i + 1) + k = omega arith in at (suc k) ∙ ap (slice_get all) n)
    (omega (arith, length-set o.dests i e.dest))
    (put_open i o.dests e.dest clear)
    (added all i f o e cs ds head (omega arith) clear g h))

-- no more operands than there are places
unfoldable pub are_few : List Form → Bool
are_few fs = leb (length fs) 4

all_open : AreOpen 0 (Nowhere ∷ Nowhere ∷ Nowhere ∷ Nowhere ∷ [])
all_open zero h = refl
all_open (suc zero) h = refl
all_open (suc (suc zero)) h = refl
all_open (suc (suc (suc zero))) h = refl
all_open (suc (suc (suc (suc k)))) h = refl

few_claimed : (b : Bool) (fs : List Form) → are_few fs ≡ b → (ss : List Spec) (r : List ℕ) → Holds (λ cs o. are_few fs ≡ true → AreClaimed fs cs o) [] (operands_from 0 fs ss (no_operands r))
unfolding are_few
few_claimed true fs e ss r =
    let few : length fs ≤ 4 = leb-true _ _ e in
    let room : 0 + length fs ≤ 4 = omega arith in
    holds_then (AreClaimed fs) (λ cs o. are_few fs ≡ true → AreClaimed fs cs o) [] (operands_from 0 fs ss (no_operands r))
    (from_holds fs 0 fs ss (no_operands r) [] (λ k. let n : k ≡ 0 + k = omega arith in ap (slice_get fs) n) room all_open (sym (open_claims fs (no_operands r).dests all_open)))
    (λ cs o h t. h)
few_claimed false fs e ss r = holds_always (λ cs o. are_few fs ≡ true → AreClaimed fs cs o) [] (operands_from 0 fs ss (no_operands r)) (λ cs o t. cc)

-- what operands claim
pub operands_claimed : (d : Instruction) (r : List ℕ) → Holds (λ cs o. are_few (forms_in (row_of d.opcode)) ≡ true → AreClaimed (forms_in (row_of d.opcode)) cs o) [] (operands_of d r)
unfolding operands_of
operands_claimed d r = few_claimed (are_few (forms_in (row_of d.opcode))) (forms_in (row_of d.opcode)) refl d.specs (past_own_bytes (if d.wait then 2 else 1) r)
