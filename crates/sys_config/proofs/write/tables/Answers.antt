use Rattle.sys_config.proofs.ItemsPrinted.{one_more}
use Rattle.sys_config.proofs.write.tables.Goals as goal

pub loop-row-preserved : goal.loop-row-preserved
loop-row-preserved g c =
    one_more (g.W.Writer.written_of c.args.writer.now) _ _ c.from.result _ c.loop-row.row-index c.row-item.result _ c.in_ok-push.ensures.items c.loop-row.invariant c.loop-row-test.true c.row-item.is c.from.ensures c.in_ok-table.ensures
