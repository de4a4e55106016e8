use Rattle.std.proofs.Common.{◌∙◌, get_or, sym, ap, arith}
use Rattle.std.proofs.lemmas.List.{set-get_or}
use Rattle.sys_flow.proofs.Rows.{passed_left, passed_joined}
use Rattle.sys_flow.proofs.closing.pass.Goals as goal
use Rattle.sys_flow.proofs.closing.pass.Goals.{then-is_set, else-is_set}

pub loop-row-preserved : goal.loop-row-preserved
loop-row-preserved c = elim c.if-is_set.branch [
  | then-is_set w ↦ rw w.rows-is (passed_joined c.args.rows.now c.args.k c.loop-row.row-index c.loop-row.rows c.loop-row.invariant (omega arith) _ (ap (λ n. get_or c.args.rows.now n 0) c.from.ensures) (sym c.is_set.ensures ∙ w.if-is_set.true))
  | else-is_set w ↦ rw (w.rows-is, set-get_or) (passed_left c.args.rows.now c.args.k c.loop-row.row-index c.loop-row.rows c.loop-row.invariant (sym c.is_set.ensures ∙ w.if-is_set.false))
]
