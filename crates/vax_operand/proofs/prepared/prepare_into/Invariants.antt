use Rattle.std.proofs.Common.{◌≡◌, length, map, take}
use Rattle.vax_operand.proofs.prepared.prepare_into.Given as goal

abbrev pub invariant-loop-i : goal.invariant-loop-i
invariant-loop-i l = record {
  count : length l.operands.items ≡ l.i;
  forms : map (λ x. x.form) l.operands.items ≡ take l.i l.forms;
  specs : map (λ x. x.spec) l.operands.items ≡ take l.i l.specs;
}
