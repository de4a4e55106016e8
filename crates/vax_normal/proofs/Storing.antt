-- What follows operands that touch memory is what a form in memory says.
use Rattle.std.proofs.Common.{◌≡◌, ◌≢◌, ℕ, ◌<◌, Bool, true, false, List, [], length, map, Option, Some, None, Ok, refl, ap, ◌∙◌, sym, subst, arith, get_or-set_other, slice_index, slice_set}
use Rattle.std.specs.Prelude.{◌==◌, if◌then◌else◌, IfSome}
use Rattle.std.proofs.Math.ListN.{length-set}
use Rattle.vax_table.specs.Arithmetic.{alu_of}
use Rattle.vax_table.specs.Effects.{Effect, put}
use Rattle.vax_table.specs.Interaction.{Done, Space, outcome}
use Rattle.vax_table.specs.Operand.{plus}
use Rattle.vax_table.specs.AllOperands.{forms_in, no_operands, operands_of, past_own_bytes}
use Rattle.vax_table.specs.Operations.{operation_of, computed, first_input, second_input, target_of}
use Rattle.vax_table.specs.Plan.{performed, planned}
use Rattle.vax_table.specs.Rows.{row_of}
use Rattle.vax_table.specs.Spelling.{Instruction, IsWellFormed}
use Rattle.vax_table.specs.declared.answer.Alu.{Alu}
use Rattle.vax_table.specs.declared.evaluation.Operands.{Operands}
use Rattle.vax_table.specs.declared.meaning.Inputs.{Inputs}
use Rattle.vax_table.specs.declared.meaning.Operation.{Operation}
use Rattle.vax_table.specs.declared.meaning.Operation.TheVariants as does
use Rattle.vax_table.specs.declared.meaning.Target.{Target}
use Rattle.vax_table.proofs.Claims.{holds_made}
use Rattle.vax_table.proofs.NextPc.{operands_go}
use Rattle.vax_operand.specs.declared.prepared.Operand.{Operand}
use Rattle.vax_operand.proofs.Steps.{left_from}
use Rattle.vax_normal.specs.AtHand.{IsMoved}
use Rattle.vax_normal.specs.InMemory.{HasClaimed, HasRead, IsInMemory, done_in_memory, finished, found_in_memory, reach_address, sourced_by, stepped_by, stored}
use Rattle.vax_normal.specs.Normal.{with_result}
use Rattle.vax_normal.specs.Touched.{AreTouched, IsClaimedAt, IsDoneIn, IsPutIn, all_had}
use Rattle.vax_normal.specs.declared.shape.InMemory.{InMemory}
use Rattle.vax_normal.specs.declared.shape.Reach.{Reach}
use Rattle.vax_normal.specs.declared.touches.Touches.{Touches}
use Rattle.vax_normal.proofs.Doing.{stored_nothing}
use Rattle.vax_normal.proofs.Taking.{after_opcode, moved_by}
use Rattle.vax_normal.proofs.Touching.{found_on}

pub computed_stored : (n : InMemory) (inputs : Inputs) (target : Target) (v u : ℕ) (r : List ℕ) (o : Operands) (psw : ℕ) → first_input inputs o ≡ sourced_by n.first v u r → second_input inputs o ≡ sourced_by n.second v u r →
    IsPutIn n.register n.writes (target_of target o) r → o.r ≡ past_own_bytes n.length (stepped_by n.writes (stepped_by n.reads r)) → performed (does.Compute n.op n.width inputs target) o psw ≡ Done (done_in_memory n v u r psw)
unfolding performed computed done_in_memory
computed_stored n inputs target v u r o psw e f at g =
    let w = n.width in
    let b : ℕ = sourced_by n.second v u r in
    let a : ℕ = sourced_by n.first v u r in
    let x : Alu = alu_of n.op a b w psw in
    let whole : computed n.op w inputs target o psw ≡ done_in_memory n v u r psw =
    ap (λ (m : ℕ). put (target_of target o) w (alu_of n.op m (second_input inputs o) w psw).value (stored_nothing o.r (alu_of n.op m (second_input inputs o) w psw).psw (alu_of n.op m (second_input inputs o) w psw).trap)) e
    ∙ ap (λ (m : ℕ). put (target_of target o) w (alu_of n.op a m w psw).value (stored_nothing o.r (alu_of n.op a m w psw).psw (alu_of n.op a m w psw).trap)) f
    ∙ at w x.value x.psw o.r x.trap
    ∙ ap (λ (q : List ℕ). let z : Effect = record { r = with_result n.register w x.value q; psw = x.psw; writes = stored n.writes r w x.value; trap = x.trap } in z) g in
    ap (λ (z : Effect). Done z) whole

-- the address that is claimed, or any
abbrev claimed_address : Option Reach → List ℕ → ℕ
claimed_address None r = 0
claimed_address (Some p) r = reach_address p r

is_claimed_at : (p : Option Reach) (r : List ℕ) → IsClaimedAt p r (claimed_address p r)
is_claimed_at None r = tt
is_claimed_at (Some p) r = refl

-- a step leaves PC
abbrev pub KeepsPc : List ℕ → List ℕ → Type 0
KeepsPc r q = (slice_index q 15 ≡ slice_index r 15) × (length q ≡ length r)

pc_if : (b : Bool) (r : List ℕ) (n v : ℕ) → n < 15 → KeepsPc r (if b then r else slice_set r n v)
pc_if true r n v low = (refl, refl)
pc_if false r n v low = let ne : 15 ≢ n = λ g. omega (arith, g) in (get_or-set_other r n 15 v 0 ne, length-set r n v)

pub pc_stepped : (p : Option Reach) (r : List ℕ) → KeepsPc r (stepped_by p r)
pc_stepped None r = (refl, refl)
pc_stepped (Some p) r = pc_if (p.step == 0) r p.register (plus (slice_index r p.register) p.step) p.there

pub operands_found : (s : Space) (d : Instruction) (xs : List Operand) (r : List ℕ) (o : Operands) → map (λ x. x.form) xs ≡ forms_in (row_of d.opcode) → map (λ x. x.spec) xs ≡ d.specs →
    outcome s (left_from 0 xs (no_operands (after_opcode d r))) ≡ Ok o → outcome s (operands_of d r) ≡ Ok o
unfolding operands_of
operands_found s d xs r o f g h = rw (sym f, sym g) h

-- operands that touch so much, and what follows them
pub touched_done : (s : Space) (t : Touches) (d : Instruction) (xs : List Operand) (r : List ℕ) (psw v u : ℕ) (e : Effect) → map (λ x. x.form) xs ≡ forms_in (row_of d.opcode) → map (λ x. x.spec) xs ≡ d.specs →
    IsWellFormed d → length r ≡ 16 → AreTouched t xs → HasRead s t.reads r v → HasClaimed s t.writes r u →
    ((at : ℕ) (q : List ℕ) → IsMoved r q → IsClaimedAt t.writes r at → (all_had v u at xs q).r ≡ past_own_bytes d.length (stepped_by t.writes (stepped_by t.reads r)) →
    outcome s (performed (operation_of d.opcode) (all_had v u at xs q) psw) ≡ Ok e) → outcome s (planned d r psw) ≡ Ok e
unfolding planned
touched_done s t d xs r psw v u e f g formed sixteen touched a h does =
    let room : 15 < length r = omega (arith, sixteen) in
    let q : List ℕ = after_opcode d r in
    let at : ℕ = claimed_address t.writes r in
    let moved : IsMoved r q = (_, refl) in
    let o : Operands = all_had v u at xs q in
    let ops = touched s 0 v u at r (no_operands q) moved a h (is_claimed_at t.writes r) in
    let found : outcome s (operands_of d r) ≡ Ok o = operands_found s d xs r o f g ops.0 in
    let pc : slice_index o.r 15 ≡ plus (slice_index r 15) d.length = holds_made (λ cs p. slice_index p.r 15 ≡ plus (slice_index r 15) d.length) s [] (operands_of d r) o (operands_go d r formed room) found in
    let mid : List ℕ = stepped_by t.reads r in
    let after : List ℕ = stepped_by t.writes mid in
    let first = pc_stepped t.reads r in
    let last = pc_stepped t.writes mid in
    let there : 15 < length after = omega (arith, room, first.1, last.1) in
    let same : slice_index after 15 ≡ slice_index r 15 = last.0 ∙ first.0 in
    let next : slice_index o.r 15 ≡ plus (slice_index after 15) d.length = pc ∙ ap (λ (x : ℕ). plus x d.length) (sym same) in
    let gone : o.r ≡ past_own_bytes d.length after = moved_by after o.r (plus (slice_index after 15) d.length) there ops.1 next in
    found_on s (operands_of d r) (λ z. performed (operation_of d.opcode) z psw) o e found (does at q moved (is_claimed_at t.writes r) gone)

pub is_in_memory : (w : Option Reach) (n : InMemory) (d : Instruction) (what : Operation) (xs : List Operand) → what ≡ operation_of d.opcode → map (λ x. x.form) xs ≡ forms_in (row_of d.opcode) → map (λ x. x.spec) xs ≡ d.specs →
    IsWellFormed d → n.length ≡ d.length → IsDoneIn w n what xs → IsInMemory n d
is_in_memory w n d what xs does f g formed long all s r psw v u sixteen a h =
    let t : Touches = record { reads = n.reads; writes = w } in
    touched_done s t d xs r psw v u (done_in_memory n v u r psw) f g formed sixteen all.0 a (all.1 s r u h) (λ at q moved claimed gone.
    subst (λ (op : Operation). outcome s (performed op (all_had v u at xs q) psw) ≡ Ok (done_in_memory n v u r psw)) does
    (all.2 s v u at psw r q (omega (arith, sixteen)) moved h claimed (gone ∙ ap (λ (k : ℕ). past_own_bytes k (stepped_by w (stepped_by n.reads r))) (sym long))))

-- what is found is what is done, where it doesn't trap
pub found_is : (n : InMemory) (v u : ℕ) (r : List ℕ) (psw a b : ℕ) (x : Alu) → a ≡ sourced_by n.first v u r → b ≡ sourced_by n.second v u r → x ≡ alu_of n.op a b n.width psw → x.trap ≡ None →
    done_in_memory n v u r psw ≡ found_in_memory n r (record { value = x.value; psw = x.psw })
unfolding done_in_memory
found_is n v u r psw a b x e f is none =
    let here : alu_of n.op (sourced_by n.first v u r) (sourced_by n.second v u r) n.width psw ≡ x =
    ap (λ (m : ℕ). alu_of n.op m (sourced_by n.second v u r) n.width psw) (sym e) ∙ ap (λ (m : ℕ). alu_of n.op a m n.width psw) (sym f) ∙ sym is in
    ap (λ (z : Alu). let y : Effect = record { r = finished n z.value r; psw = z.psw; writes = stored n.writes r n.width z.value; trap = z.trap } in y) here
    ∙ ap (λ (t : Option ℕ). let y : Effect = record { r = finished n x.value r; psw = x.psw; writes = stored n.writes r n.width x.value; trap = t } in y) none

pub form_found : (w : InMemory → Option Reach) (o : Option InMemory) (d : Instruction) (what : Operation) (xs : List Operand) (k : ℕ) → what ≡ operation_of d.opcode → map (λ x. x.form) xs ≡ forms_in (row_of d.opcode) → map (λ x. x.spec) xs ≡ d.specs →
    IsWellFormed d → k ≡ d.length → IfSome o (λ n. IsDoneIn (w n) n what xs) → IfSome o (λ n. n.length ≡ k) → IfSome o (λ n. IsInMemory n d)
form_found w None d what xs k does f g formed long all by = tt
form_found w (Some n) d what xs k does f g formed long all by = is_in_memory (w n) n d what xs does f g formed (by ∙ long) all
