use Rattle.vvmm_laws.proofs.Loads.{limits_load}
use Rattle.vvmm_laws.proofs.laws.load_has_few_answers.Goals as goal

pub returns : goal.returns
returns c = limits_load
