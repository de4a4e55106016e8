use Rattle.sys_purge.proofs.Lines.{keeps_lines}
use Rattle.sys_purge.proofs.laws.a_purge_keeps_lines.Goals as goal

pub returns : goal.returns
returns c = keeps_lines
