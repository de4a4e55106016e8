use Rattle.std.proofs.Common.{subst}
use Rattle.vm_shadow.specs.Marks.{IsPast}
use Rattle.vm_shadow.proofs.Remembering.{past_marked}
use Rattle.vm_shadow.proofs.records.Records.next.Goals as goal

pub returns : goal.returns
returns c = record {
  past = subst (λ r. IsPast c.args.which r c.args.from c.next_in.result) c.self.view_is
      (past_marked c.self.inside.frames c.self.inside.sources.items c.self.inside.filled c.self.inside.groups c.self.invariant c.args.which c.args.from c.row_of.result c.next_in.result c.row_of.ensures
      (rw c.self.view_is c.next_in.ensures.past));
  within = c.next_in.ensures.within;
}
