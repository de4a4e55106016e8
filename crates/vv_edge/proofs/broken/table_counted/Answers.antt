use Rattle.std.proofs.Common.{◌∙◌, sym, ap}
use Rattle.vv_edge.proofs.Rows.{entry_found, entry_next}
use Rattle.vv_edge.proofs.broken.table_counted.Goals as goal

pub returns-in-Some : goal.returns-in-Some
returns-in-Some c = c.as_table.ensures ∙ sym (entry_found _ _ _ _ _ _ _ c.loop-list-test.true c.tables_under-values.ensures c.in-Some.ensures.lookup.3.0 (c.in-Some.ensures.lookup.3.1 _)) ∙ c.loop-list.invariant

pub loop-list-preserved : goal.loop-list-preserved
loop-list-preserved c = rw c.saturating_sub-left.ensures (sym (entry_next _ _ _ _ _ _ c.loop-list-test.true c.tables_under-values.ensures c.in-None.ensures.lookup.3) ∙ c.loop-list.invariant)
