use Rattle.sys_purge.proofs.Lines.{opening_kept}
use Rattle.sys_purge.proofs.laws.a_purged_run_begins_with_a_purged_moment.Goals as goal

pub returns : goal.returns
returns c = opening_kept
