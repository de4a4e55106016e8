use Rattle.vvmm_laws.proofs.Typed.{typing_keeps_lines}
use Rattle.vvmm_laws.proofs.live.typing_keeps_lines.Goals as goal

pub returns : goal.returns
returns c = typing_keeps_lines
