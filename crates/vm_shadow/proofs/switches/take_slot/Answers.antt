use Rattle.vm_shadow.proofs.Taking.{slot_first}
use Rattle.vm_shadow.proofs.switches.take_slot.Goals as goal

pub returns-clause-small : goal.returns-clause-small
returns-clause-small c = slot_first c.args.c.now c.take.result.slot _ c.take.new.self c.take.ensures.front c.take.ensures.facts
