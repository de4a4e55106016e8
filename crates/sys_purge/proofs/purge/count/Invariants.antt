use Rattle.std.proofs.Common.{◌≡◌, ◌≤◌, length, filter, take}
use Rattle.vv_class.specs.Class.{does_flow}
use Rattle.sys_purge.proofs.purge.count.Given as goal

abbrev pub invariant-loop-row : goal.invariant-loop-row
invariant-loop-row g l = record {
  within : l.count ≤ l.row-index;
  value : l.count ≡ length (filter (λ row. does_flow (g.R.Row.class_of row) l.to) (take l.row-index l.rows));
}
