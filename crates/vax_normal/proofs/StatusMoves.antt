-- MOVPSL to a register and PROBE of operands that are had at once are what their normal forms say.
use Rattle.std.proofs.Common.{◌≡◌, ℕ, ◌%◌, ◌^◌, ◌<◌, true, List, [], ◌∷◌, length, map, Result, Ok, refl, ap, ◌∙◌, sym, arith}
use Rattle.vv_base.specs.declared.width.Width.TheVariants.{Long}
use Rattle.vax_table.specs.declared.act.Dest.{Dest}
use Rattle.vax_table.specs.declared.act.Dest.TheVariants.{Register}
use Rattle.vax_table.specs.declared.evaluation.Operands.{Operands}
use Rattle.vax_table.specs.declared.meaning.Operation.{Operation}
use Rattle.vax_table.specs.declared.meaning.Operation.TheVariants.{MoveStatus, Probe}
use Rattle.vax_table.specs.Effects.{Effect, begun, dest_of, long_of, put, put_in_register}
use Rattle.vax_table.specs.Interaction.{Done, Interaction, Trouble, outcome, ◌>>=◌}
use Rattle.vax_table.specs.AllOperands.{forms_in, operands_of, past_own_bytes}
use Rattle.vax_table.specs.Operations.{operation_of}
use Rattle.vax_table.specs.Plan.{performed_with, plan_of}
use Rattle.vax_table.specs.Rows.{row_of}
use Rattle.vax_table.specs.Spelling.{Instruction, IsWellFormed}
use Rattle.vax_operand.specs.declared.kind.Kind.{Kind}
use Rattle.vax_operand.specs.declared.kind.Kind.TheVariants.{WriteRegister}
use Rattle.vax_operand.specs.declared.prepared.Operand.{Operand}
use Rattle.vax_normal.specs.AtHand.{AreAlikeButPc, all_at_hand, are_at_hand, dest_at_hand}
use Rattle.vax_normal.specs.Normal.{number_by, quietly}
use Rattle.vax_normal.proofs.Doing.{result_low}
use Rattle.vax_normal.proofs.Taking.{after_opcode, operands_taken, pc_alone, pc_taken}
use Rattle.vax_normal.specs.ProbeTest.{AreProbed, IsProbeTest, operands_had}
use Rattle.vax_normal.specs.StatusMove.{IsStatusMove, status_finished}
use Rattle.vax_normal.specs.declared.rarer_shape.ProbeTest.{ProbeTest}
use Rattle.vax_normal.specs.declared.rarer_shape.StatusMove.{StatusMove}

at_hand : (x : Operand) → x.kind ≡ WriteRegister → are_at_hand (x ∷ []) ≡ true
at_hand x is = rw is refl

pub is_status_move : (n : StatusMove) (d : Instruction) (xs : List Operand) (x : Operand) (what : Operation) → what ≡ operation_of d.opcode → what ≡ MoveStatus → map (λ x. x.form) xs ≡ forms_in (row_of d.opcode) → map (λ x. x.spec) xs ≡ d.specs →
    xs ≡ x ∷ [] → x.kind ≡ WriteRegister → IsWellFormed d → n.length ≡ d.length → n.register ≡ x.spec.reg → IsStatusMove n d
unfolding plan_of
is_status_move n d xs x what does is f g one writes formed long there = (
  sym does ∙ is,
  λ s r psl sixteen.
      let ys : List Operand = x ∷ [] in
      let room : 15 < length r = omega (arith, sixteen) in
      let q = after_opcode d r in
      let o : Operands = all_at_hand ys q in
      let hand : are_at_hand ys ≡ true = at_hand x writes in
      let forms : map (λ y. y.form) ys ≡ forms_in (row_of d.opcode) = ap (map (λ (y : Operand). y.form)) (sym one) ∙ f in
      let specs : map (λ y. y.spec) ys ≡ d.specs = ap (map (λ (y : Operand). y.spec)) (sym one) ∙ g in
      let pc : o.r ≡ past_own_bytes n.length r = pc_taken d ys r forms specs hand formed room ∙ ap (λ (k : ℕ). past_own_bytes k r) (sym long) in
      let taken : plan_of psl d r ≡ performed_with psl (operation_of d.opcode) o = ap (λ (m : Interaction Operands). m >>= λ z. performed_with psl (operation_of d.opcode) z) (operands_taken d ys r forms specs hand) in
      let moves : performed_with psl (operation_of d.opcode) o ≡ performed_with psl MoveStatus o = ap (λ (op : Operation). performed_with psl op o) (sym does ∙ is) in
      let dest : dest_of o 0 ≡ Register n.register = ap (λ (k : Kind). dest_at_hand k x.spec.reg) writes ∙ ap (λ (m : ℕ). let to : Dest = Register m in to) (sym there) in
      let goes : put (dest_of o 0) Long psl (begun o (psl % 2 ^ 8)) ≡ quietly (status_finished n psl r) (psl % 2 ^ 8) =
      ap (λ (to : Dest). put to Long psl (begun o (psl % 2 ^ 8))) dest
      ∙ ap (λ (ys : List ℕ). quietly (put_in_register Long n.register psl ys) (psl % 2 ^ 8)) pc
      ∙ ap (λ (ys : List ℕ). quietly ys (psl % 2 ^ 8)) (sym (result_low n.register Long psl (past_own_bytes n.length r) n.there)) in
      ap (outcome s) (taken ∙ moves ∙ ap (λ (e : Effect). let y : Interaction Effect = Done e in y) goes),
)

-- operands that an outcome has
had : (n : ProbeTest) (r : List ℕ) (o : Operands) (x : Result Operands Trouble) → x ≡ Ok o → AreProbed n r o → (x ≡ Ok (operands_had x)) × AreProbed n r (operands_had x)
had n r o x e h = rw e (refl, h)

pub is_probe_test : (n : ProbeTest) (d : Instruction) (xs : List Operand) (what : Operation) → what ≡ operation_of d.opcode → what ≡ Probe n.intent → map (λ x. x.form) xs ≡ forms_in (row_of d.opcode) → map (λ x. x.spec) xs ≡ d.specs →
    are_at_hand xs ≡ true → IsWellFormed d → n.length ≡ d.length → ((r q : List ℕ) → AreAlikeButPc r q → long_of (all_at_hand xs q) 0 ≡ number_by n.mode r) → ((r q : List ℕ) → AreAlikeButPc r q → long_of (all_at_hand xs q) 1 ≡ number_by n.bytes r) →
    ((r q : List ℕ) → AreAlikeButPc r q → long_of (all_at_hand xs q) 2 ≡ number_by n.base r) → IsProbeTest n d
is_probe_test n d xs what does is f g hand formed long mode bytes base = (
  sym does ∙ is,
  λ s r sixteen.
      let room : 15 < length r = omega (arith, sixteen) in
      let q = after_opcode d r in
      let o : Operands = all_at_hand xs q in
      let pc : o.r ≡ past_own_bytes n.length r = pc_taken d xs r f g hand formed room ∙ ap (λ (k : ℕ). past_own_bytes k r) (sym long) in
      had n r o (outcome s (operands_of d r)) (ap (outcome s) (operands_taken d xs r f g hand)) (mode r q (pc_alone r _), bytes r q (pc_alone r _), base r q (pc_alone r _), pc),
)
