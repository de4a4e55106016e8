use Rattle.vvmm_laws.proofs.Typed.{typing_keeps_drives}
use Rattle.vvmm_laws.proofs.live.typing_keeps_drives.Goals as goal

pub returns : goal.returns
returns c = typing_keeps_drives
