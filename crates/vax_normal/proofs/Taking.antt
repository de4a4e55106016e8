-- Operands that need no memory are had at once, and what follows them.
use Rattle.std.proofs.Common.{◌≡◌, ℕ, zero, suc, ◌+◌, ◌<◌, ◌&&◌, Bool, true, false, List, [], ◌∷◌, length, map, Option, Some, None, refl, ap, ◌∙◌, sym, subst, arith, get_or, get_or-set_other, get_or-set_same, slice_index, slice_index_or, slice_set}
use Rattle.std.specs.Prelude.{if◌then◌else◌}
use Rattle.std.proofs.lemmas.List.{set-set}
use Rattle.std.proofs.Math.ListN.{length-set}
use Rattle.vv_base.specs.declared.width.Width.{Width}
use Rattle.vv_base.specs.Width.{size_of}
use Rattle.vax_table.specs.declared.act.Dest.TheVariants.{Nowhere}
use Rattle.vax_table.specs.declared.decoded.Spec.{Spec}
use Rattle.vax_table.specs.declared.evaluation.Evaluated.{Evaluated}
use Rattle.vax_table.specs.declared.evaluation.Operands.{Operands}
use Rattle.vax_table.specs.declared.meaning.Operation.{Operation}
use Rattle.vax_table.specs.Claims.{Holds}
use Rattle.vax_table.specs.Interaction.{Done, Interaction, outcome, ◌>>=◌}
use Rattle.vax_table.specs.Operand.{evaluated, indexed_by, place, plus}
use Rattle.vax_table.specs.AllOperands.{forms_in, no_operands, operand_of, operands_of, past_own_bytes, with_operand}
use Rattle.vax_table.specs.Operations.{operation_of}
use Rattle.vax_table.specs.Plan.{performed, planned}
use Rattle.vax_table.specs.Rows.{row_of}
use Rattle.vax_table.specs.Spelling.{Instruction, IsWellFormed}
use Rattle.vax_table.proofs.NextPc.{operands_go}
use Rattle.vax_operand.specs.declared.kind.Base.TheVariants.{Deferred, Decrement, Increment, IncrementDeferred, Absolute, Displaced, DisplacedDeferred}
use Rattle.vax_operand.specs.declared.kind.Kind.{Kind}
use Rattle.vax_operand.specs.declared.kind.Kind.TheVariants.{Constant, ReadRegister, ModifyRegister, WriteRegister, BitsRegister, Branch, Read, Modify, Write, Address, Bits}
use Rattle.vax_operand.specs.declared.prepared.Operand.{Operand}
use Rattle.vax_operand.specs.Prepared.{address_by, base_by, operand_by}
use Rattle.vax_operand.proofs.Preparing.{prepared_same}
use Rattle.vax_operand.proofs.Steps.{left_from}
use Rattle.vax_normal.specs.AtHand.{AreAlikeButPc, IsDoneBy, IsMoved, are_at_hand, is_at_hand, all_at_hand, dest_at_hand, from_at_hand, value_at_hand}
use Rattle.vax_normal.specs.Normal.{IsNormal, done_at_once, done_by}
use Rattle.vax_normal.specs.declared.shape.Normal.{Normal}

index_keeps : (size : ℕ) (i : Option ℕ) (at : ℕ) (q : List ℕ) → (indexed_by size i (place at q)).r ≡ q
index_keeps size None at q = refl
index_keeps size (Some x) at q = refl

-- an address that is taken, by its base's address
address_taken : (size : ℕ) (i : Option ℕ) (at : ℕ) (q : List ℕ) → (let p = indexed_by size i (place at q) in let y : Interaction Evaluated = Done (evaluated p.at Nowhere p.r) in y) ≡ Done (evaluated (indexed_by size i (place at q)).at Nowhere q)
address_taken size i at q = ap (λ (xs : List ℕ). let y : Interaction Evaluated = Done (evaluated (indexed_by size i (place at q)).at Nowhere xs) in y) (index_keeps size i at q)

kind_taken : (k : Kind) (w : Width) (s : Spec) (q : List ℕ) → is_at_hand k ≡ true → operand_by k w s q ≡ Done (evaluated (value_at_hand k w s q) (dest_at_hand k s.reg) q)
unfolding operand_by address_by base_by
kind_taken Constant w s q h = refl
kind_taken ReadRegister w s q h = refl
kind_taken ModifyRegister w s q h = refl
kind_taken WriteRegister w s q h = refl
kind_taken BitsRegister w s q h = refl
kind_taken (Branch d) w s q h = refl
kind_taken (Read b) w s q h = cc
kind_taken (Modify b) w s q h = cc
kind_taken (Write b) w s q h = cc
kind_taken (Address Deferred) w s q h = address_taken (size_of w) s.index (slice_index q s.reg) q
kind_taken (Address Decrement) w s q h = cc
kind_taken (Address Increment) w s q h = cc
kind_taken (Address IncrementDeferred) w s q h = cc
kind_taken (Address (Absolute a)) w s q h = address_taken (size_of w) s.index a q
kind_taken (Address (Displaced d)) w s q h = address_taken (size_of w) s.index (plus (slice_index q s.reg) d) q
kind_taken (Address (DisplacedDeferred d)) w s q h = cc
kind_taken (Bits b) w s q h = cc

-- an operand, with the registers after its own bytes
abbrev pub taken_operand : Operand → List ℕ → Evaluated
taken_operand x r = evaluated (value_at_hand x.kind x.form.width x.spec (past_own_bytes x.length r)) (dest_at_hand x.kind x.spec.reg) (past_own_bytes x.length r)

pub operand_taken : (x : Operand) (r : List ℕ) → is_at_hand x.kind ≡ true → operand_of x.form x.spec r ≡ Done (taken_operand x r)
operand_taken x r h = sym (prepared_same x.form x.spec x.kind x.length r x.prepared x.bytes) ∙ kind_taken x.kind x.form.width x.spec (past_own_bytes x.length r) h

and_both : (a b : Bool) → (a && b) ≡ true → (a ≡ true) × (b ≡ true)
and_both true b e = (refl, e)
and_both false b e = cc

from_taken : (i : ℕ) (xs : List Operand) (o : Operands) → are_at_hand xs ≡ true → left_from i xs o ≡ Done (from_at_hand i xs o)
from_taken i [] o h = refl
from_taken i (x ∷ xs) o h =
    let parts = and_both (is_at_hand x.kind) (are_at_hand xs) h in
    ap (λ (m : Interaction Evaluated). m >>= λ e. left_from (i + 1) xs (with_operand i o e)) (operand_taken x o.r parts.0) ∙ from_taken (i + 1) xs (with_operand i o (taken_operand x o.r)) parts.1

-- the registers after the opcode
abbrev pub after_opcode : Instruction → List ℕ → List ℕ
after_opcode d r = past_own_bytes (if d.wait then 2 else 1) r

pub operands_taken : (d : Instruction) (xs : List Operand) (r : List ℕ) → map (λ x. x.form) xs ≡ forms_in (row_of d.opcode) → map (λ x. x.spec) xs ≡ d.specs → are_at_hand xs ≡ true →
    operands_of d r ≡ Done (all_at_hand xs (after_opcode d r))
unfolding operands_of
operands_taken d xs r f g h = rw (sym f, sym g) (from_taken 0 xs (no_operands (after_opcode d r)) h)

pub pc_alone : (r : List ℕ) (v : ℕ) → AreAlikeButPc r (slice_set r 15 v)
pc_alone r v i low = get_or-set_other r 15 i v 0 (omega arith)

pub moved_on : (r q : List ℕ) (k : ℕ) → IsMoved r q → IsMoved r (past_own_bytes k q)
moved_on r q k (v, e) = (plus (slice_index q 15) k, ap (λ (xs : List ℕ). slice_set xs 15 (plus (slice_index q 15) k)) e ∙ set-set r 15 v (plus (slice_index q 15) k))

from_moved : (r : List ℕ) (i : ℕ) (xs : List Operand) (o : Operands) → IsMoved r o.r → IsMoved r (from_at_hand i xs o).r
from_moved r i [] o h = h
from_moved r i (x ∷ xs) o h = from_moved r (i + 1) xs (with_operand i o (taken_operand x o.r)) (moved_on r o.r x.length h)

-- and so much
pub moved_by : (r q : List ℕ) (v : ℕ) → 15 < length r → IsMoved r q → slice_index q 15 ≡ v → q ≡ slice_set r 15 v
moved_by r q v room (w, e) g =
    let is : slice_index q 15 ≡ w = ap (λ (xs : List ℕ). slice_index xs 15) e ∙ get_or-set_same r 15 w 0 room in
    e ∙ ap (λ (x : ℕ). slice_set r 15 x) (sym is ∙ g)

pub pc_taken : (d : Instruction) (xs : List Operand) (r : List ℕ) → map (λ x. x.form) xs ≡ forms_in (row_of d.opcode) → map (λ x. x.spec) xs ≡ d.specs → are_at_hand xs ≡ true →
    IsWellFormed d → 15 < length r → (all_at_hand xs (after_opcode d r)).r ≡ past_own_bytes d.length r
pc_taken d xs r f g h formed room =
    let goes : Holds (λ cs o. slice_index o.r 15 ≡ plus (slice_index r 15) d.length) [] (Done (all_at_hand xs (after_opcode d r))) =
    subst (Holds (λ cs o. slice_index o.r 15 ≡ plus (slice_index r 15) d.length) []) (operands_taken d xs r f g h) (operands_go d r formed room) in
    moved_by r (all_at_hand xs (after_opcode d r)).r (plus (slice_index r 15) d.length) room (from_moved r 0 xs (no_operands (after_opcode d r)) (_, refl)) goes

-- an instruction whose operands are had at once, and whose operation a shape says
pub is_normal : (n : Normal) (d : Instruction) (what : Operation) (xs : List Operand) → what ≡ operation_of d.opcode → map (λ x. x.form) xs ≡ forms_in (row_of d.opcode) → map (λ x. x.spec) xs ≡ d.specs →
    are_at_hand xs ≡ true → IsWellFormed d → n.length ≡ d.length → IsDoneBy n.shape n.length what xs → IsNormal n d
unfolding planned done_at_once
is_normal n d what xs does f g h formed long done s r psw sixteen =
    let room : 15 < length r = omega (arith, sixteen) in
    let q = after_opcode d r in
    let pc : (all_at_hand xs q).r ≡ past_own_bytes n.length r = pc_taken d xs r f g h formed room ∙ ap (λ (k : ℕ). past_own_bytes k r) (sym long) in
    let all : planned d r psw ≡ performed (operation_of d.opcode) (all_at_hand xs q) psw = ap (λ (m : Interaction Operands). m >>= λ o. performed (operation_of d.opcode) o psw) (operands_taken d xs r f g h) in
    let one : performed (operation_of d.opcode) (all_at_hand xs q) psw ≡ Done (done_by n.shape n.length r psw) =
    subst (λ (op : Operation). performed op (all_at_hand xs q) psw ≡ Done (done_by n.shape n.length r psw)) does (done r q psw room (pc_alone r _) pc) in
    ap (outcome s) (all ∙ one)

-- ---- the operand of a number

pub values_kept : (k i : ℕ) (xs : List Operand) (o : Operands) → k < i → slice_index (from_at_hand i xs o).values k ≡ slice_index o.values k
values_kept k i [] o low = refl
values_kept k i (x ∷ xs) o low =
    values_kept k (i + 1) xs (with_operand i o (taken_operand x o.r)) (omega arith) ∙ get_or-set_other o.values i k (taken_operand x o.r).value 0 (omega arith)

dests_kept : (k i : ℕ) (xs : List Operand) (o : Operands) → k < i → slice_index_or (from_at_hand i xs o).dests k Nowhere ≡ slice_index_or o.dests k Nowhere
dests_kept k i [] o low = refl
dests_kept k i (x ∷ xs) o low =
    dests_kept k (i + 1) xs (with_operand i o (taken_operand x o.r)) (omega arith) ∙ get_or-set_other o.dests i k (taken_operand x o.r).dest Nowhere (omega arith)

pub alike_on : (r q : List ℕ) (k : ℕ) → AreAlikeButPc r q → AreAlikeButPc r (past_own_bytes k q)
alike_on r q k h i low = pc_alone q _ i low ∙ h i low

-- the value of an operand, by registers that are alike
abbrev pub HasValue : List ℕ → Operand → ℕ → Type 0
HasValue r x v = (q : List ℕ) × AreAlikeButPc r q × (v ≡ value_at_hand x.kind x.form.width x.spec q)

pub set_at : {A : Type 0} (xs : List A) (i k : ℕ) (v d : A) → k ≡ i → k < length xs → get_or (slice_set xs i v) k d ≡ v
set_at xs i k v d e low = rw e (get_or-set_same xs i v d (omega (arith, e)))

from_value : (r : List ℕ) (i j k : ℕ) (xs : List Operand) (o : Operands) (x : Operand) → AreAlikeButPc r o.r → i < length xs → x ≡ get_or xs i x → k ≡ j + i → k < length o.values →
    HasValue r x (slice_index (from_at_hand j xs o).values k)
from_value r i j k [] o x alike low there e room = absurd (omega arith)
from_value r zero j k (y ∷ ys) o x alike low there e room =
    let v = taken_operand y o.r in
    let kept : slice_index (from_at_hand (j + 1) ys (with_operand j o v)).values k ≡ slice_index (slice_set o.values j v.value) k = values_kept k (j + 1) ys (with_operand j o v) (omega (arith, e)) in
    let is : slice_index (slice_set o.values j v.value) k ≡ v.value = set_at o.values j k v.value 0 (omega (arith, e)) room in
    (past_own_bytes y.length o.r, alike_on r o.r y.length alike, kept ∙ is ∙ ap (λ (z : Operand). value_at_hand z.kind z.form.width z.spec (past_own_bytes y.length o.r)) (sym there))
from_value r (suc i) j k (y ∷ ys) o x alike low there e room =
    from_value r i (j + 1) k ys (with_operand j o (taken_operand y o.r)) x (alike_on r o.r y.length alike) (omega arith) there (omega (arith, e)) (omega (arith, room, length-set o.values j (taken_operand y o.r).value))

pub value_at : (r q : List ℕ) (i : ℕ) (xs : List Operand) (x : Operand) → AreAlikeButPc r q → i < length xs → i < 4 → x ≡ get_or xs i x → HasValue r x (slice_index (all_at_hand xs q).values i)
value_at r q i xs x alike low few there = from_value r i 0 i xs (no_operands q) x alike low there (omega arith) few

from_dest : (i j k : ℕ) (xs : List Operand) (o : Operands) (x : Operand) → i < length xs → x ≡ get_or xs i x → k ≡ j + i → k < length o.dests →
    slice_index_or (from_at_hand j xs o).dests k Nowhere ≡ dest_at_hand x.kind x.spec.reg
from_dest i j k [] o x low there e room = absurd (omega arith)
from_dest zero j k (y ∷ ys) o x low there e room =
    let v = taken_operand y o.r in
    dests_kept k (j + 1) ys (with_operand j o v) (omega (arith, e)) ∙ set_at o.dests j k v.dest Nowhere (omega (arith, e)) room ∙ ap (λ (z : Operand). dest_at_hand z.kind z.spec.reg) (sym there)
from_dest (suc i) j k (y ∷ ys) o x low there e room =
    from_dest i (j + 1) k ys (with_operand j o (taken_operand y o.r)) x (omega arith) there (omega (arith, e)) (omega (arith, room, length-set o.dests j (taken_operand y o.r).dest))

pub dest_at : (q : List ℕ) (i : ℕ) (xs : List Operand) (x : Operand) → i < length xs → i < 4 → x ≡ get_or xs i x → slice_index_or (all_at_hand xs q).dests i Nowhere ≡ dest_at_hand x.kind x.spec.reg
dest_at q i xs x low few there = from_dest i 0 i xs (no_operands q) x low there (omega arith) few

-- ---- lists of one operand, of two and of three

pub one_of : (xs : List Operand) (x : Operand) → 0 < length xs → length xs < 2 → x ≡ get_or xs 0 x → xs ≡ x ∷ []
one_of [] x some few is = absurd (omega arith)
one_of (y ∷ []) x some few is = ap (λ (z : Operand). z ∷ []) (sym is)
one_of (y ∷ (z ∷ zs)) x some few is = absurd (omega arith)

pub three_of : (xs : List Operand) (x y z : Operand) → 2 < length xs → length xs < 4 → x ≡ get_or xs 0 x → y ≡ get_or xs 1 y → z ≡ get_or xs 2 z → xs ≡ x ∷ (y ∷ (z ∷ []))
three_of [] x y z some few is and last = absurd (omega arith)
three_of (a ∷ []) x y z some few is and last = absurd (omega arith)
three_of (a ∷ (b ∷ [])) x y z some few is and last = absurd (omega arith)
three_of (a ∷ (b ∷ (d ∷ []))) x y z some few is and last =
    ap (λ (w : Operand). w ∷ (b ∷ (d ∷ []))) (sym is) ∙ ap (λ (w : Operand). x ∷ (w ∷ (d ∷ []))) (sym and) ∙ ap (λ (w : Operand). x ∷ (y ∷ (w ∷ []))) (sym last)
three_of (a ∷ (b ∷ (d ∷ (e ∷ es)))) x y z some few is and last = absurd (omega arith)

pub two_of : (xs : List Operand) (x y : Operand) → 1 < length xs → length xs < 3 → x ≡ get_or xs 0 x → y ≡ get_or xs 1 y → xs ≡ x ∷ (y ∷ [])
two_of [] x y some few is and = absurd (omega arith)
two_of (a ∷ []) x y some few is and = absurd (omega arith)
two_of (a ∷ (b ∷ [])) x y some few is and = ap (λ (z : Operand). z ∷ (b ∷ [])) (sym is) ∙ ap (λ (z : Operand). x ∷ (z ∷ [])) (sym and)
two_of (a ∷ (b ∷ (d ∷ ds))) x y some few is and = absurd (omega arith)
