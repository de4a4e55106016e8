use Rattle.vm_shadow.proofs.Remembering.{marks_process}
use Rattle.vm_shadow.proofs.records.mark_groups.Goals as goal

pub returns-in-Process : goal.returns-in-Process
returns-in-Process c = rw c.in-Process.is (marks_process c.args.frames c.args.n c.in-Process.entry c.in-Process.table c.args.groups.now c.mark_group.new.groups c.mark_group-in-Process.new.groups c.mark_group-in-Process-2.new.groups c.mark_group.ensures c.mark_group-in-Process.ensures c.mark_group-in-Process-2.ensures)
