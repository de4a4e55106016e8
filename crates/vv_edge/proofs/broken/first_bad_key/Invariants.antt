use Rattle.std.proofs.Common.{◌≡◌, drop}
use Rattle.toml.specs.View.{table_view}
use Rattle.vv_edge.specs.Broken.{first_bad_key, rows_seen}
use Rattle.vv_edge.proofs.broken.first_bad_key.Given as goal

abbrev pub invariant-loop-row : goal.invariant-loop-row
invariant-loop-row l = first_bad_key l.is_needed l.top (table_view l.table) (rows_seen (drop l.row-index l.rows)) ≡ first_bad_key l.is_needed l.top (table_view l.table) (rows_seen l.rows)
