use Rattle.std.proofs.Common.{◌≡◌, take}
use Rattle.toml.specs.View.{array_view}
use Rattle.sys_config.specs.Written.{items_by}
use Rattle.sys_config.proofs.write.tables.Given as goal

abbrev pub invariant-loop-row : goal.invariant-loop-row
invariant-loop-row g l = array_view l.values ≡ items_by (g.W.Writer.written_of l.writer) (take l.row-index l.rows)
