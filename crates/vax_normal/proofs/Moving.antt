-- A quadword that is moved after operands that touch memory is what a form says.
use Rattle.std.proofs.Common.{◌≡◌, ℕ, ◌+◌, ◌<◌, List, [], ◌∷◌, map, Option, Some, None, ap, ◌∙◌, sym, arith, slice_index}
use Rattle.std.specs.Prelude.{IfSome}
use Rattle.vv_base.specs.declared.width.Width.TheVariants.{Quad}
use Rattle.vax_table.specs.Arithmetic.{alu_of}
use Rattle.vax_table.specs.Computing.{moved_quad}
use Rattle.vax_table.specs.Effects.{Effect}
use Rattle.vax_table.specs.Interaction.{Done, outcome}
use Rattle.vax_table.specs.Operand.{register_value}
use Rattle.vax_table.specs.AllOperands.{forms_in, past_own_bytes}
use Rattle.vax_table.specs.Operations.{operation_of}
use Rattle.vax_table.specs.Plan.{performed}
use Rattle.vax_table.specs.Rows.{row_of}
use Rattle.vax_table.specs.Spelling.{Instruction, IsWellFormed}
use Rattle.vax_table.specs.declared.act.Dest.{Dest}
use Rattle.vax_table.specs.declared.answer.AluOp.TheVariants.{Move}
use Rattle.vax_table.specs.declared.evaluation.Operands.{Operands}
use Rattle.vax_table.specs.declared.meaning.Operation.{Operation}
use Rattle.vax_table.specs.declared.meaning.Operation.TheVariants as does
use Rattle.vax_operand.specs.declared.prepared.Operand.{Operand}
use Rattle.vax_normal.specs.AtHand.{IsMoved}
use Rattle.vax_normal.specs.InMemory.{stepped_by, stored}
use Rattle.vax_normal.specs.Normal.{with_result}
use Rattle.vax_normal.specs.QuadMove.{IsQuadMove, quad_finished, quad_from, quad_moved}
use Rattle.vax_normal.specs.Touched.{AreTouched, IsClaimedAt, IsPutIn, all_had, dest_had, value_had}
use Rattle.vax_normal.specs.declared.shape.QuadMove.{QuadMove}
use Rattle.vax_normal.specs.declared.shape.QuadSource.{QuadSource}
use Rattle.vax_normal.specs.declared.shape.QuadSource.TheVariants.{Constant}
use Rattle.vax_normal.proofs.Storing.{touched_done}
use Rattle.vax_normal.proofs.Taking.{moved_on}
use Rattle.vax_normal.proofs.Touching.{moved_same}

-- two registers by registers of which PC alone is another
pub pair_same : (r q : List ℕ) (n : ℕ) → n < 14 → IsMoved r q → register_value Quad q n ≡ register_value Quad r n
pair_same r q n low moved =
    let first : slice_index q n ≡ slice_index r n = moved_same r q n (omega (arith, low)) moved in
    let next : slice_index q (n + 1) ≡ slice_index r (n + 1) = moved_same r q (n + 1) (omega (arith, low)) moved in
    omega (arith, first, next)

-- a quadword put where a form puts it
quad_made : (n : QuadMove) (r : List ℕ) (dest : Dest) (o : Operands) (x y psw : ℕ) → x ≡ y → IsPutIn n.register n.writes dest r → o.r ≡ past_own_bytes n.length (stepped_by n.writes (stepped_by n.reads r)) →
    moved_quad x dest o psw ≡ quad_moved n y r psw
unfolding moved_quad quad_moved
quad_made n r dest o x y psw e at g =
    let codes : ℕ → ℕ = λ m. (alu_of Move m 0 Quad psw).psw in
    at Quad x (codes x) o.r None
    ∙ ap (λ (q : List ℕ). let z : Effect = record { r = with_result n.register Quad x q; psw = codes x; writes = stored n.writes r Quad x; trap = None } in z) g
    ∙ ap (λ (m : ℕ). let z : Effect = record { r = quad_finished n m r; psw = codes m; writes = stored n.writes r Quad m; trap = None } in z) e

-- an operation after operands that moves what a form moves
is_quad : (n : QuadMove) (d : Instruction) (what : Operation) (xs : List Operand) → what ≡ operation_of d.opcode → map (λ x. x.form) xs ≡ forms_in (row_of d.opcode) → map (λ x. x.spec) xs ≡ d.specs →
    IsWellFormed d → n.length ≡ d.length → AreTouched (record { reads = n.reads; writes = n.writes }) xs →
    ((v u at psw : ℕ) (r q : List ℕ) → IsMoved r q → IsClaimedAt n.writes r at → (all_had v u at xs q).r ≡ past_own_bytes n.length (stepped_by n.writes (stepped_by n.reads r)) →
    performed what (all_had v u at xs q) psw ≡ Done (quad_moved n (quad_from n.source v r) r psw)) → IsQuadMove n d
is_quad n d what xs does f g formed long touched by s r psw v u sixteen a h =
    touched_done s (record { reads = n.reads; writes = n.writes }) d xs r psw v u (quad_moved n (quad_from n.source v r) r psw) f g formed sixteen touched a h (λ at q moved claimed gone.
    ap (λ (op : Operation). outcome s (performed op (all_had v u at xs q) psw)) (sym does)
    ∙ ap (outcome s) (by v u at psw r q moved claimed (gone ∙ ap (λ (k : ℕ). past_own_bytes k (stepped_by n.writes (stepped_by n.reads r))) (sym long))))

-- what a form puts goes to an operand's place
abbrev IsPutAt : Operand → QuadMove → Type 0
IsPutAt x n = (r : List ℕ) (at : ℕ) → IsClaimedAt n.writes r at → IsPutIn n.register n.writes (dest_had at x.kind x.spec.reg) r

-- CLRQ
pub quad_cleared : (form : Option QuadMove) (d : Instruction) (x : Operand) (k : ℕ) → does.ClearQuad ≡ operation_of d.opcode → map (λ x. x.form) (x ∷ []) ≡ forms_in (row_of d.opcode) → map (λ x. x.spec) (x ∷ []) ≡ d.specs → IsWellFormed d → k ≡ d.length →
    IfSome form (λ n. AreTouched (record { reads = n.reads; writes = n.writes }) (x ∷ [])) → IfSome form (IsPutAt x) → IfSome form (λ n. n.source ≡ Constant 0) → IfSome form (λ n. n.length ≡ k) → IfSome form (λ n. IsQuadMove n d)
unfolding performed
quad_cleared None d x k is f g formed long touched put from by = tt
quad_cleared (Some n) d x k is f g formed long touched put from by =
    is_quad n d does.ClearQuad (x ∷ []) is f g formed (by ∙ long) touched (λ v u at psw r q moved claimed gone.
    let o : Operands = all_had v u at (x ∷ []) q in
    ap (λ (z : Effect). Done z) (quad_made n r (dest_had at x.kind x.spec.reg) o 0 (quad_from n.source v r) psw (sym (ap (λ (y : QuadSource). quad_from y v r) from)) (put r at claimed) gone))

-- the quadword of an operand comes from there
abbrev pub IsQuadOf : QuadSource → Operand → Type 0
IsQuadOf y x = (v u : ℕ) (r q : List ℕ) → IsMoved r q → value_had v u x.kind x.form.width x.spec q ≡ quad_from y v r

-- MOVQ
pub quad_copied : (form : Option QuadMove) (d : Instruction) (x to : Operand) (y : QuadSource) (k : ℕ) → does.MoveQuad ≡ operation_of d.opcode → map (λ x. x.form) (x ∷ (to ∷ [])) ≡ forms_in (row_of d.opcode) → map (λ x. x.spec) (x ∷ (to ∷ [])) ≡ d.specs → IsWellFormed d → k ≡ d.length →
    IsQuadOf y x → IfSome form (λ n. AreTouched (record { reads = n.reads; writes = n.writes }) (x ∷ (to ∷ []))) → IfSome form (IsPutAt to) → IfSome form (λ n. n.source ≡ y) → IfSome form (λ n. n.length ≡ k) → IfSome form (λ n. IsQuadMove n d)
unfolding performed
quad_copied None d x to y k is f g formed long has touched put from by = tt
quad_copied (Some n) d x to y k is f g formed long has touched put from by =
    is_quad n d does.MoveQuad (x ∷ (to ∷ [])) is f g formed (by ∙ long) touched (λ v u at psw r q moved claimed gone.
    let o : Operands = all_had v u at (x ∷ (to ∷ [])) q in
    let value : slice_index o.values 0 ≡ quad_from n.source v r = has v u r (past_own_bytes x.length q) (moved_on r q x.length moved) ∙ sym (ap (λ (z : QuadSource). quad_from z v r) from) in
    ap (λ (z : Effect). Done z) (quad_made n r (dest_had at to.kind to.spec.reg) o (slice_index o.values 0) (quad_from n.source v r) psw value (put r at claimed) gone))
