use Rattle.sys_config.proofs.ItemsPrinted.{one_mount_more}
use Rattle.sys_config.proofs.write.mount_values.Goals as goal

pub loop-unit-preserved : goal.loop-unit-preserved
loop-unit-preserved c =
    one_mount_more c.args.volumes.now _ _ c.from.result c.args.mounts.now c.loop-unit.unit c.in-Some.mount _ c.in_ok-push.ensures.items c.loop-unit.invariant c.loop-unit-test.true c.in-Some.is c.from.ensures c.in_ok-table.ensures
