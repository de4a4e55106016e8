use Rattle.vvmm_laws.proofs.Typed.{line_more_is_alike}
use Rattle.vvmm_laws.proofs.live.a_line_more_is_alike.Goals as goal

pub returns : goal.returns
returns c = line_more_is_alike
