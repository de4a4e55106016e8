use Rattle.std.proofs.Common.{◌≡◌, ◌<◌, ℕ, drop, map, Some, slice_get, slice_index, slice_index_or}
use Rattle.vax_table.specs.declared.act.Dest.TheVariants.{Nowhere}
use Rattle.vax_table.specs.declared.forms.Form.{Form}
use Rattle.vax_table.specs.Interaction.{outcome}
use Rattle.vax_table.specs.LegalOperands.{FitsForm}
use Rattle.vax_operand.specs.Left.{operands_with_registers}
use Rattle.vax_operand.proofs.Steps.{left_from}
use Rattle.vax_operand.proofs.instruction.evaluate_all.Given as goal

abbrev pub invariant-loop-i : goal.invariant-loop-i
invariant-loop-i g l = record {
  same : outcome (g.S.Space.space l.space) (left_from l.i (drop l.i l.operands) (operands_with_registers l.v l.r)) ≡ outcome (g.S.Space.space l.space) (left_from 0 l.operands (operands_with_registers l.fn.v l.fn.r));
  fits : (k : ℕ) (f : Form) → k < l.i → slice_get (map (λ x. x.form) l.operands) k ≡ Some f → FitsForm f (slice_index l.v.values k) (slice_index_or l.v.dests k Nowhere);
}
