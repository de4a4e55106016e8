use Rattle.std.proofs.Common.{inl, inr, sym, ◌∙◌, arith}
use Rattle.std.proofs.lemmas.Bool.{cases_lt}
use Rattle.sys_flow.specs.Reach.{has_edge}
use Rattle.sys_flow.proofs.Paths.{no_edge_from}
use Rattle.sys_flow.proofs.Rows.{beyond_rows, rows_more}
use Rattle.sys_flow.proofs.closing.rows.Goals as goal

pub loop-a-preserved : goal.loop-a-preserved
loop-a-preserved c =
    rw c.push.ensures.items (rows_more (has_edge c.args.c.now) c.loop-a.a c.loop-a.rows.items c.row.result c.loop-a.invariant c.row.ensures)

pub returns-clause-value : goal.returns-clause-value
returns-clause-value c = λ a b. elim (cases_lt a c.loop-a.a) [
  | inl l ↦ c.loop-a.invariant.rows_are a b l
  | inr l ↦ beyond_rows c.loop-a.rows.items a b (omega (arith, c.loop-a.invariant.len)) ∙ sym (no_edge_from c.args.c.now a b (omega arith))
]
