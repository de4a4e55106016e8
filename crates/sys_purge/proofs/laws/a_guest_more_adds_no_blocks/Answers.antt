use Rattle.sys_purge.proofs.Adding.{guests_add_no_blocks}
use Rattle.sys_purge.proofs.laws.a_guest_more_adds_no_blocks.Goals as goal

pub returns : goal.returns
returns c = guests_add_no_blocks
