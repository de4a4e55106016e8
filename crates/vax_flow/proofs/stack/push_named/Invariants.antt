use Rattle.std.proofs.Common.{◌≡◌, ◌≤◌, ◌+◌}
use Rattle.arrayvec.specs.ArrayVec.{array_vec_len}
use Rattle.vax_table.specs.Calls.{values_of}
use Rattle.vax_table.specs.Effects.{effect}
use Rattle.vax_table.specs.Interaction.{outcome}
use Rattle.vax_table.specs.Stack.{named_down, push_all}
use Rattle.vax_flow.proofs.stack.push_named.Given as goal

abbrev pub invariant-loop-n : goal.invariant-loop-n
invariant-loop-n g l = record {
  same : outcome (g.S.Space.space l.space) (push_all (values_of l.r (named_down l.n l.mask)) (effect l.plan)) ≡ outcome (g.S.Space.space l.space) (push_all (values_of l.r (named_down l.count l.mask)) (effect l.fn.plan));
  room : array_vec_len l.plan.writes + l.n ≤ array_vec_len l.fn.plan.writes + l.count;
}
