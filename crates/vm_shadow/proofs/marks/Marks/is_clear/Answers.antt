use Rattle.vm_shadow.proofs.Sets.{free_none}
use Rattle.vm_shadow.proofs.marks.Marks.is_clear.Goals as goal

pub loop-at-init : goal.loop-at-init
loop-at-init c = free_none _ _
