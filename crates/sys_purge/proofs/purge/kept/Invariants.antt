use Rattle.std.proofs.Common.{◌≡◌, filter, take}
use Rattle.vv_class.specs.Class.{does_flow}
use Rattle.sys_purge.proofs.purge.kept.Given as goal

abbrev pub invariant-loop-row : goal.invariant-loop-row
invariant-loop-row g l = l.kept.items ≡ filter (λ row. does_flow (g.R.Row.class_of row) l.to) (take l.row-index l.rows)
