use Rattle.vvmm_laws.proofs.Saves.{completes_save}
use Rattle.vvmm_laws.proofs.snaps.save_is_complete.Goals as goal

pub returns : goal.returns
returns c = completes_save
