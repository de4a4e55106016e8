use Rattle.vm_shadow.proofs.Remembering.{removes_last}
use Rattle.vm_shadow.proofs.records.Records.remove.Goals as goal

pub invariant_of-self : goal.invariant_of-self
invariant_of-self c = removes_last c.self.inside.frames c.self.inside.sources.items c.self.inside.filled c.self.inside.groups c.self.invariant c.args.n c.next.result c.unmark.new.self c.unmark-then-next-first.new.self c.requires c.unmark.ensures c.next.ensures c.if-next-first.true c.unmark-then-next-first.ensures
