use Rattle.sys_audit_check.proofs.Mounts.{mounts_tell}
use Rattle.sys_audit_check.proofs.laws.mounts_alone_tell.Goals as goal

pub returns : goal.returns
returns c = mounts_tell
