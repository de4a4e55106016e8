use Rattle.vvmm_laws.proofs.Agreed.{lives_agree}
use Rattle.vvmm_laws.proofs.live.live_runs_agree.Goals as goal

pub returns : goal.returns
returns c = lives_agree
