use Rattle.sys_state.proofs.SlicedTouches.{same_touches}
use Rattle.sys_state.proofs.laws.same_touches.Goals as goal

pub returns : goal.returns
returns c = same_touches
