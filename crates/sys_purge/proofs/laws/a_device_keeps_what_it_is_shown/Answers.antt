use Rattle.sys_purge.proofs.Lines.{keeps_shown}
use Rattle.sys_purge.proofs.laws.a_device_keeps_what_it_is_shown.Goals as goal

pub returns : goal.returns
returns c = keeps_shown
