use Rattle.std.proofs.Common.{None, Some}
use Rattle.sys_server.specs.Apply.{freed}
use Rattle.sys_server.proofs.Setting.{set_over}
use Rattle.sys_server.proofs.granting.connect.Goals as goal

pub returns-clause-at : goal.returns-clause-at
returns-clause-at c = let over = set_over (freed c.args.g) c.args.at.now c.args.terminal None (Some c.args.g) in cc
