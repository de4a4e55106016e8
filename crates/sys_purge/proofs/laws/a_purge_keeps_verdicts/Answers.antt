use Rattle.sys_purge.proofs.Judged.{keeps_verdicts}
use Rattle.sys_purge.proofs.laws.a_purge_keeps_verdicts.Goals as goal

pub returns : goal.returns
returns c = keeps_verdicts
