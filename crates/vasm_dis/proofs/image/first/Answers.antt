use Rattle.vasm_dis.proofs.Lines.{none_needed, none_faulted}
use Rattle.vasm_dis.proofs.image.first.Goals as goal

pub returns-in-NeedMore : goal.returns-in-NeedMore
returns-in-NeedMore c = none_needed _ c.in-NeedMore.ensures.reads

pub returns-in-Fault : goal.returns-in-Fault
returns-in-Fault c = none_faulted _ _ c.in-Fault.ensures.reads
