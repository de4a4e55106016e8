-- Operands of which one refers to memory with an index, and what an operation of the arithmetic does after them.
use Rattle.std.proofs.Common.{◌≡◌, ℕ, ◌+◌, ◌*◌, ◌<◌, true, List, [], ◌∷◌, length, map, Option, Some, None, Result, Ok, Err, refl, ap, ◌∙◌, sym, subst, arith, get_or-set_same, slice_index, slice_set}
use Rattle.std.specs.Prelude.{◌==◌, if◌then◌else◌, IfSome}
use Rattle.vv_base.specs.declared.width.Width.{Width}
use Rattle.vv_base.specs.Width.{size_of}
use Rattle.vax_arch.specs.declared.mode.Intent.{Intent}
use Rattle.vax_arch.specs.declared.mode.Intent.TheVariants as intents
use Rattle.vax_table.specs.Arithmetic.{alu_of}
use Rattle.vax_table.specs.Effects.{Effect, put, store}
use Rattle.vax_table.specs.Interaction.{Done, Interaction, Space, Touch, Trouble, by_result, number_at, outcome, ◌>>=◌}
use Rattle.vax_table.specs.Operand.{evaluated, indexed_by, place, plus}
use Rattle.vax_table.specs.AllOperands.{forms_in, no_operands, operand_of, operands_of, past_own_bytes, with_operand}
use Rattle.vax_table.specs.Operations.{operation_of, computed, first_input, second_input, target_of}
use Rattle.vax_table.specs.Plan.{performed, planned}
use Rattle.vax_table.specs.Rows.{row_of}
use Rattle.vax_table.specs.Spelling.{Instruction, IsWellFormed}
use Rattle.vax_table.specs.declared.act.Dest.TheVariants.{Nowhere, Memory}
use Rattle.vax_table.specs.declared.answer.Alu.{Alu}
use Rattle.vax_table.specs.declared.decoded.Spec.{Spec}
use Rattle.vax_table.specs.declared.effect.Store.{Store}
use Rattle.vax_table.specs.declared.evaluation.Evaluated.{Evaluated}
use Rattle.vax_table.specs.declared.evaluation.Operands.{Operands}
use Rattle.vax_table.specs.declared.evaluation.Place.{Place}
use Rattle.vax_table.specs.declared.meaning.Inputs.{Inputs}
use Rattle.vax_table.specs.declared.meaning.Operation.{Operation}
use Rattle.vax_table.specs.declared.meaning.Operation.TheVariants as does
use Rattle.vax_table.specs.declared.meaning.Target.{Target}
use Rattle.vax_table.proofs.Claims.{holds_made}
use Rattle.vax_table.proofs.NextPc.{operands_go}
use Rattle.vax_operand.specs.Prepared.{address_by, base_by, operand_by}
use Rattle.vax_operand.specs.declared.kind.Base.{Base}
use Rattle.vax_operand.specs.declared.kind.Base.TheVariants.{Deferred, Displaced}
use Rattle.vax_operand.specs.declared.kind.Kind.{Kind}
use Rattle.vax_operand.specs.declared.kind.Kind.TheVariants.{Read, Modify, Write}
use Rattle.vax_operand.specs.declared.prepared.Operand.{Operand}
use Rattle.vax_operand.proofs.Preparing.{prepared_same}
use Rattle.vax_operand.proofs.Steps.{left_from}
use Rattle.vax_normal.specs.AtHand.{IsMoved, is_at_hand}
use Rattle.vax_normal.specs.InMemory.{reach_address, sourced_by, stored}
use Rattle.vax_normal.specs.Normal.{with_result}
use Rattle.vax_normal.specs.Touched.{AreTouched, IsPutIn, all_had, base_left, dest_had, left_by, operand_had, value_had}
use Rattle.vax_normal.specs.declared.shape.Reach.{Reach}
use Rattle.vax_normal.specs.declared.touches.Touches.{Touches}
use Rattle.vax_normal.proofs.Doing.{stored_nothing}
use Rattle.vax_normal.proofs.Storing.{operands_found}
use Rattle.vax_normal.proofs.Taking.{after_opcode, moved_by, moved_on, operand_taken, taken_operand}
use Rattle.vax_normal.proofs.Touching.{found_on, kind_had, moved_same, none_touched}
use Rattle.vax_normal.specs.Indexed.{AreIndexedBy, HasIndexed, IsClaimedLike, IsIndexed, IsIndexedBy, IsIndexedDone, IsIndexedReach, IsOffsetBy, indexed_address, indexed_done, indexed_finished, indexed_found, indexed_stored, stored_for}
use Rattle.vax_normal.specs.declared.rarer_shape.Indexed.{Indexed}
use Rattle.vax_normal.specs.declared.rarer_shape.IndexedReach.{IndexedReach}

-- ---- the reference

added_twice : (x i : ℕ) → plus x i ≡ plus (plus x 0) i
added_twice x i = omega arith

pub deferred_offset : (b : Base) → b ≡ Deferred → IsOffsetBy 0 b
unfolding base_by
deferred_offset b is size n q =
    (slice_index q n, ap (λ (z : Base). base_by z size n q) is, λ i. added_twice (slice_index q n) i, ap (λ (z : Base). base_left z size n q) is)

pub displaced_offset : (b : Base) (k : ℕ) → b ≡ Displaced k → IsOffsetBy k b
unfolding base_by
displaced_offset b k is size n q =
    (plus (slice_index q n) k, ap (λ (z : Base). base_by z size n q) is, λ i. refl, ap (λ (z : Base). base_left z size n q) is)

pub is_indexed_reach : (p : IndexedReach) (b : Base) (w : Width) (s : Spec) → p.width ≡ w → p.base ≡ s.reg → s.index ≡ Some p.index → IsOffsetBy p.offset b → IsIndexedReach p b w s
unfolding address_by
is_indexed_reach p b w s wide by with offset = (
  wide,
  λ q.
      let size : ℕ = size_of w in
      let h = offset size s.reg q in
      let a : ℕ = h.0 in
      let i : ℕ = size * slice_index q p.index in
      let same : plus a i ≡ indexed_address p q =
      h.2 i ∙ ap (λ (n : ℕ). plus (plus (slice_index q n) p.offset) i) (sym by) ∙ ap (λ (z : Width). plus (plus (slice_index q p.base) p.offset) (size_of z * slice_index q p.index)) (sym wide) in (
        ap (λ (m : Interaction Place). m >>= λ z. Done (indexed_by size s.index z)) h.1
            ∙ ap (λ (o : Option ℕ). let y : Interaction Place = Done (indexed_by size o (place a q)) in y) with
            ∙ ap (λ (x : ℕ). let y : Interaction Place = Done (place x q) in y) same,
        h.3,
      ),
)

-- an operand by its kind
by_kind : (s : Space) (x : Operand) (k : Kind) (m at : ℕ) (q : List ℕ) → x.kind ≡ k → outcome s (operand_by k x.form.width x.spec q) ≡ Ok (evaluated (value_had m m k x.form.width x.spec q) (dest_had at k x.spec.reg) q) → left_by k x.form.width x.spec q ≡ q →
    (outcome s (operand_by x.kind x.form.width x.spec q) ≡ Ok (evaluated (value_had m m x.kind x.form.width x.spec q) (dest_had at x.kind x.spec.reg) q)) × (left_by x.kind x.form.width x.spec q ≡ q)
by_kind s x k m at q is gives left =
    subst (λ (z : Kind). (outcome s (operand_by z x.form.width x.spec q) ≡ Ok (evaluated (value_had m m z x.form.width x.spec q) (dest_had at z x.spec.reg) q)) × (left_by z x.form.width x.spec q ≡ q)) (sym is) (gives, left)

has_here : (s : Space) (i : Intent) (p : IndexedReach) (w : Width) (q : List ℕ) (m : ℕ) → p.width ≡ w → HasIndexed s i p q m → number_at s i (size_of w) (indexed_address p q) ≡ Ok m
has_here s i p w q m wide has = ap (λ (z : Width). number_at s i (size_of z) (indexed_address p q)) (sym wide) ∙ has

pub reads_indexed : (p : IndexedReach) (b : Base) (x : Operand) → x.kind ≡ Read b → IsIndexedReach p b x.form.width x.spec → IsIndexedBy p intents.Read x
unfolding operand_by
reads_indexed p b x is reach s m q has =
    let w = x.form.width in
    let parts = reach.1 q in
    let gives : outcome s (operand_by (Read b) w x.spec q) ≡ Ok (evaluated m Nowhere q) =
    ap (λ (z : Interaction Place). outcome s (z >>= λ y. Touch intents.Read y.at (size_of w) (λ n. Done (evaluated n Nowhere y.r)))) parts.0
    ∙ ap (λ (z : Result ℕ Trouble). by_result z (λ n. let y : Result Evaluated Trouble = Ok (evaluated n Nowhere q) in y) Err) (has_here s intents.Read p w q m reach.0 has) in
    by_kind s x (Read b) m (indexed_address p q) q is gives parts.1

pub modifies_indexed : (p : IndexedReach) (b : Base) (x : Operand) → x.kind ≡ Modify b → IsIndexedReach p b x.form.width x.spec → IsIndexedBy p intents.Write x
unfolding operand_by
modifies_indexed p b x is reach s m q has =
    let w = x.form.width in
    let at : ℕ = indexed_address p q in
    let parts = reach.1 q in
    let gives : outcome s (operand_by (Modify b) w x.spec q) ≡ Ok (evaluated m (Memory at) q) =
    ap (λ (z : Interaction Place). outcome s (z >>= λ y. Touch intents.Write y.at (size_of w) (λ n. Done (evaluated n (Memory y.at) y.r)))) parts.0
    ∙ ap (λ (z : Result ℕ Trouble). by_result z (λ n. let y : Result Evaluated Trouble = Ok (evaluated n (Memory at) q) in y) Err) (has_here s intents.Write p w q m reach.0 has) in
    by_kind s x (Modify b) m at q is gives parts.1

pub writes_indexed : (p : IndexedReach) (b : Base) (x : Operand) → x.kind ≡ Write b → IsIndexedReach p b x.form.width x.spec → IsIndexedBy p intents.Write x
unfolding operand_by
writes_indexed p b x is reach s m q has =
    let w = x.form.width in
    let at : ℕ = indexed_address p q in
    let parts = reach.1 q in
    let gives : outcome s (operand_by (Write b) w x.spec q) ≡ Ok (evaluated 0 (Memory at) q) =
    ap (λ (z : Interaction Place). outcome s (z >>= λ y. Touch intents.Write y.at (size_of w) (λ n. Done (evaluated 0 (Memory y.at) y.r)))) parts.0
    ∙ ap (λ (z : Result ℕ Trouble). by_result z (λ n. let y : Result Evaluated Trouble = Ok (evaluated 0 (Memory at) q) in y) Err) (has_here s intents.Write p w q m reach.0 has) in
    by_kind s x (Write b) m at q is gives parts.1

-- ---- the operands

pub indexed_hand : (p : IndexedReach) (i : Intent) (x : Operand) (xs : List Operand) → is_at_hand x.kind ≡ true → AreIndexedBy p i xs → AreIndexedBy p i (x ∷ xs)
indexed_hand p i x xs h rest s k m r o moved has =
    let at : ℕ = indexed_address p r in
    let e : Evaluated = operand_had m m at x o.r in
    let same : e ≡ taken_operand x o.r = kind_had x.kind x.form.width x.spec m m at (past_own_bytes x.length o.r) h in
    let first : outcome s (operand_of x.form x.spec o.r) ≡ Ok e = ap (outcome s) (operand_taken x o.r h) ∙ ap (λ (z : Evaluated). Ok z) (sym same) in
    let after : IsMoved r e.r = subst (λ (z : Evaluated). IsMoved r z.r) (sym same) (moved_on r o.r x.length moved) in
    let next = rest s (k + 1) m r (with_operand k o e) after has in
    (found_on s (operand_of x.form x.spec o.r) (λ z. left_from (k + 1) xs (with_operand k o z)) e _ first next.0, next.1)

address_same : (p : IndexedReach) (r q : List ℕ) → IsMoved r q → indexed_address p q ≡ indexed_address p r
address_same p r q moved =
    ap (λ (x : ℕ). plus (plus x p.offset) (size_of p.width * slice_index q p.index)) (moved_same r q p.base p.there moved)
    ∙ ap (λ (x : ℕ). plus (plus (slice_index r p.base) p.offset) (size_of p.width * x)) (moved_same r q p.index p.indexed moved)

pub indexed_first : (p : IndexedReach) (i : Intent) (x : Operand) (xs : List Operand) → IsIndexedBy p i x → AreTouched (record { reads = None; writes = None }) xs → AreIndexedBy p i (x ∷ xs)
indexed_first p i x xs by rest s k m r o moved has =
    let at : ℕ = indexed_address p r in
    let here : List ℕ = past_own_bytes x.length o.r in
    let on : IsMoved r here = moved_on r o.r x.length moved in
    let same : indexed_address p here ≡ at = address_same p r here on in
    let gives = by s m here (ap (λ (a : ℕ). number_at s i (size_of p.width) a) same ∙ has) in
    let e : Evaluated = operand_had m m at x o.r in
    let v : ℕ = value_had m m x.kind x.form.width x.spec here in
    let first : outcome s (operand_of x.form x.spec o.r) ≡ Ok e =
    ap (outcome s) (sym (prepared_same x.form x.spec x.kind x.length o.r x.prepared x.bytes)) ∙ gives.0
    ∙ ap (λ (a : ℕ). let y : Result Evaluated Trouble = Ok (evaluated v (dest_had a x.kind x.spec.reg) here) in y) same
    ∙ ap (λ (q : List ℕ). let y : Result Evaluated Trouble = Ok (evaluated v (dest_had at x.kind x.spec.reg) q) in y) (sym gives.1) in
    let after : IsMoved r e.r = subst (IsMoved r) (sym gives.1) on in
    let next = rest s (k + 1) m m at r (with_operand k o e) after tt tt tt in
    (found_on s (operand_of x.form x.spec o.r) (λ z. left_from (k + 1) xs (with_operand k o z)) e _ first next.0, next.1)

pub some_hand : (o : Option (IndexedReach × Intent)) (x : Operand) (ys xs : List Operand) → xs ≡ x ∷ ys → is_at_hand x.kind ≡ true → IfSome o (λ t. AreIndexedBy t.0 t.1 ys) → IfSome o (λ t. AreIndexedBy t.0 t.1 xs)
some_hand None x ys xs is h rest = tt
some_hand (Some t) x ys xs is h rest = subst (AreIndexedBy t.0 t.1) (sym is) (indexed_hand t.0 t.1 x ys h rest)

pub some_first : (o : Option (IndexedReach × Intent)) (t : Touches) (x : Operand) (ys xs : List Operand) → xs ≡ x ∷ ys → t.reads ≡ None → t.writes ≡ None → AreTouched t ys → IfSome o (λ z. IsIndexedBy z.0 z.1 x) → IfSome o (λ z. AreIndexedBy z.0 z.1 xs)
some_first None t x ys xs is a b rest by = tt
some_first (Some z) t x ys xs is a b rest by = subst (AreIndexedBy z.0 z.1) (sym is) (indexed_first z.0 z.1 x ys by (none_touched t ys a b rest))

-- ---- the place that is claimed

pub claims_none : (i : Intent) → i ≡ intents.Read → IsClaimedLike i None
claims_none i is at = ([], tt, λ w v. ap (λ (z : Intent). stored_for z at w v) (sym is))

no_offset : (k x : ℕ) → k ≡ 0 → (if k == 0 then x else plus x k) ≡ x
no_offset k x none = subst (λ (z : ℕ). (if z == 0 then x else plus x z) ≡ x) (sym none) refl

abbrev zeros : List ℕ
zeros = 0 ∷ 0 ∷ 0 ∷ 0 ∷ 0 ∷ 0 ∷ 0 ∷ 0 ∷ 0 ∷ 0 ∷ 0 ∷ 0 ∷ 0 ∷ 0 ∷ 0 ∷ []

pub claims_like : (i : Intent) (p : Reach) → i ≡ intents.Write → p.offset ≡ 0 → IsClaimedLike i (Some p)
claims_like i p is none at =
    let r : List ℕ = slice_set zeros p.register at in
    let there : reach_address p r ≡ at = no_offset p.offset (slice_index r p.register) none ∙ get_or-set_same zeros p.register at 0 p.there in
    (r, sym there, λ w v. ap (λ (a : ℕ). store a w v ∷ []) there ∙ ap (λ (z : Intent). stored_for z at w v) (sym is))

-- ---- what follows

pub computed_stored : (n : Indexed) (inputs : Inputs) (target : Target) (m : ℕ) (r z : List ℕ) (c : Option Reach) (o : Operands) (psw : ℕ) → first_input inputs o ≡ sourced_by n.first m m r → second_input inputs o ≡ sourced_by n.second m m r →
    IsPutIn n.register c (target_of target o) z → ((w : Width) (v : ℕ) → stored c z w v ≡ stored_for n.intent (indexed_address n.reach r) w v) → ((at v : ℕ) → stored_for n.intent at n.width v ≡ stored_for n.intent at n.reach.width v) →
    o.r ≡ past_own_bytes n.length r → performed (does.Compute n.op n.width inputs target) o psw ≡ Done (indexed_done n m r psw)
unfolding performed computed indexed_done
computed_stored n inputs target m r z c o psw e f goes stores wide g =
    let w = n.width in
    let b : ℕ = sourced_by n.second m m r in
    let a : ℕ = sourced_by n.first m m r in
    let x : Alu = alu_of n.op a b w psw in
    let whole : computed n.op w inputs target o psw ≡ indexed_done n m r psw =
    ap (λ (m : ℕ). put (target_of target o) w (alu_of n.op m (second_input inputs o) w psw).value (stored_nothing o.r (alu_of n.op m (second_input inputs o) w psw).psw (alu_of n.op m (second_input inputs o) w psw).trap)) e
    ∙ ap (λ (m : ℕ). put (target_of target o) w (alu_of n.op a m w psw).value (stored_nothing o.r (alu_of n.op a m w psw).psw (alu_of n.op a m w psw).trap)) f
    ∙ goes w x.value x.psw o.r x.trap
    ∙ ap (λ (q : List ℕ). let y : Effect = record { r = with_result n.register w x.value q; psw = x.psw; writes = stored c z w x.value; trap = x.trap } in y) g
    ∙ ap (λ (ys : List Store). let y : Effect = record { r = indexed_finished n x.value r; psw = x.psw; writes = ys; trap = x.trap } in y) (stores w x.value ∙ wide (indexed_address n.reach r) x.value) in
    ap (λ (y : Effect). Done y) whole

is_indexed : (n : Indexed) (d : Instruction) (what : Operation) (xs : List Operand) → what ≡ operation_of d.opcode → map (λ x. x.form) xs ≡ forms_in (row_of d.opcode) → map (λ x. x.spec) xs ≡ d.specs → IsWellFormed d → n.length ≡ d.length →
    IsIndexedDone n what xs → IsIndexed n d
unfolding planned
is_indexed n d what xs does f g formed long all s r psw m sixteen has =
    let room : 15 < length r = omega (arith, sixteen) in
    let q : List ℕ = after_opcode d r in
    let moved : IsMoved r q = (_, refl) in
    let o : Operands = all_had m m (indexed_address n.reach r) xs q in
    let ops = all.0 s 0 m r (no_operands q) moved has in
    let found : outcome s (operands_of d r) ≡ Ok o = operands_found s d xs r o f g ops.0 in
    let pc : slice_index o.r 15 ≡ plus (slice_index r 15) d.length = holds_made (λ cs p. slice_index p.r 15 ≡ plus (slice_index r 15) d.length) s [] (operands_of d r) o (operands_go d r formed room) found in
    let gone : o.r ≡ past_own_bytes n.length r = moved_by r o.r (plus (slice_index r 15) d.length) room ops.1 pc ∙ ap (λ (k : ℕ). past_own_bytes k r) (sym long) in
    let done : outcome s (performed (operation_of d.opcode) o psw) ≡ Ok (indexed_done n m r psw) = ap (λ (op : Operation). outcome s (performed op o psw)) (sym does) ∙ ap (outcome s) (all.1 m psw r q room moved gone) in
    found_on s (operands_of d r) (λ z. performed (operation_of d.opcode) z psw) o (indexed_done n m r psw) found done

pub indexed_form : (o : Option Indexed) (d : Instruction) (what : Operation) (xs : List Operand) (k : ℕ) → what ≡ operation_of d.opcode → map (λ x. x.form) xs ≡ forms_in (row_of d.opcode) → map (λ x. x.spec) xs ≡ d.specs → IsWellFormed d → k ≡ d.length →
    IfSome o (λ n. IsIndexedDone n what xs) → IfSome o (λ n. n.length ≡ k) → IfSome o (λ n. IsIndexed n d)
indexed_form None d what xs k does f g formed long all by = tt
indexed_form (Some n) d what xs k does f g formed long all by = is_indexed n d what xs does f g formed (by ∙ long) all

-- what is found is what is done, where it doesn't trap
pub found_is : (n : Indexed) (m : ℕ) (r : List ℕ) (psw a b : ℕ) (x : Alu) → a ≡ sourced_by n.first m m r → b ≡ sourced_by n.second m m r → x ≡ alu_of n.op a b n.width psw → x.trap ≡ None →
    indexed_done n m r psw ≡ indexed_found n r (record { value = x.value; psw = x.psw })
unfolding indexed_done
found_is n m r psw a b x e f is none =
    let here : alu_of n.op (sourced_by n.first m m r) (sourced_by n.second m m r) n.width psw ≡ x =
    ap (λ (k : ℕ). alu_of n.op k (sourced_by n.second m m r) n.width psw) (sym e) ∙ ap (λ (k : ℕ). alu_of n.op a k n.width psw) (sym f) ∙ sym is in
    ap (λ (z : Alu). let y : Effect = record { r = indexed_finished n z.value r; psw = z.psw; writes = indexed_stored n r z.value; trap = z.trap } in y) here
    ∙ ap (λ (t : Option ℕ). let y : Effect = record { r = indexed_finished n x.value r; psw = x.psw; writes = indexed_stored n r x.value; trap = t } in y) none
