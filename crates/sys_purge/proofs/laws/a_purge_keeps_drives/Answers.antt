use Rattle.sys_purge.proofs.Lines.{keeps_drives}
use Rattle.sys_purge.proofs.laws.a_purge_keeps_drives.Goals as goal

pub returns : goal.returns
returns c = keeps_drives
