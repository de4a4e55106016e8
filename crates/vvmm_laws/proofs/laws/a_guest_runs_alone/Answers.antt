use Rattle.vvmm_laws.proofs.Steps.{runs_alone}
use Rattle.vvmm_laws.proofs.laws.a_guest_runs_alone.Goals as goal

pub returns : goal.returns
returns c = runs_alone
