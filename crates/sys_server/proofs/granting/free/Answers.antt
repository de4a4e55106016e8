use Rattle.std.proofs.Common.{None, arith}
use Rattle.sys_server.specs.Apply.{freed}
use Rattle.sys_server.proofs.Setting.{changed_one}
use Rattle.sys_server.proofs.granting.free.Goals as goal

pub loop-t-preserved : goal.loop-t-preserved
loop-t-preserved c = changed_one (freed c.args.g) _ _ _ None _ (omega arith) c.loop-t.invariant c.freed.ensures
