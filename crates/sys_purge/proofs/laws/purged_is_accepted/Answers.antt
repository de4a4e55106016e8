use Rattle.sys_purge.proofs.Accepted.{purged_is}
use Rattle.sys_purge.proofs.laws.purged_is_accepted.Goals as goal

pub returns : goal.returns
returns c = purged_is
