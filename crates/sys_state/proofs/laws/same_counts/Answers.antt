use Rattle.sys_state.proofs.Sums.{same_counts}
use Rattle.sys_state.proofs.laws.same_counts.Goals as goal

pub returns : goal.returns
returns c = same_counts
