use Rattle.sys_state.proofs.SlicedRound.{any_round}
use Rattle.sys_state.proofs.laws.any_round.Goals as goal

pub returns : goal.returns
returns c = any_round
