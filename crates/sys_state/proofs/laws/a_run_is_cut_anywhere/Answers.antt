use Rattle.sys_state.proofs.Parts.{cut_anywhere}
use Rattle.sys_state.proofs.laws.a_run_is_cut_anywhere.Goals as goal

pub returns : goal.returns
returns c = cut_anywhere
