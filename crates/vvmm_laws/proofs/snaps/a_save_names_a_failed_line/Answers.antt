use Rattle.vvmm_laws.proofs.Saves.{tells_save_line_fault}
use Rattle.vvmm_laws.proofs.snaps.a_save_names_a_failed_line.Goals as goal

pub returns : goal.returns
returns c = tells_save_line_fault
