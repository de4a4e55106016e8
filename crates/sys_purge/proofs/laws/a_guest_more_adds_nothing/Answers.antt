use Rattle.sys_purge.proofs.Adding.{guests_add_nothing}
use Rattle.sys_purge.proofs.laws.a_guest_more_adds_nothing.Goals as goal

pub returns : goal.returns
returns c = guests_add_nothing
