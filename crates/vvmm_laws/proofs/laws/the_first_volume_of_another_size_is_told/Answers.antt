use Rattle.vvmm_laws.proofs.Chosen.{tells_run_size}
use Rattle.vvmm_laws.proofs.laws.the_first_volume_of_another_size_is_told.Goals as goal

pub returns : goal.returns
returns c = tells_run_size
