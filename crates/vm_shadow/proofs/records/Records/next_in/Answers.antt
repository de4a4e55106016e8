use Rattle.std.proofs.Common.{◌≤◌, arith, subst}
use Rattle.vm_shadow.specs.Marks.{IsPastIn}
use Rattle.vm_shadow.proofs.Remembering.{in_less, in_more, past_in, skipped}
use Rattle.vm_shadow.proofs.records.Records.next_in.Goals as goal

pub loop-n-init : goal.loop-n-init
loop-n-init c = record { past = skipped c.args.groups.now c.args.row c.args.self.now c.args.from c.skip-n.result c.skip-n.ensures.skips; few = c.skip-n.ensures.few }

pub loop-n-preserved : goal.loop-n-preserved
loop-n-preserved c =
    let found : c.min-later.result ≤ c.next-found.result = c.if-found-later.false in
    record {
      past = in_more c.args.groups.now c.args.row c.args.self.now c.args.from c.next-found.result c.min-later.result c.skip-n-in-loop-n.result (omega (arith, c.loop-n.invariant.past.order, c.min-later.ensures)) found
          (subst (λ r. IsPastIn c.args.groups.now c.args.row r c.args.from c.next-found.result) c.self.view_is
          (past_in c.self.inside.frames c.self.inside.sources.items c.self.inside.filled c.self.inside.groups c.self.invariant c.args.groups.now c.args.row c.args.from c.loop-n.n c.min-later.result c.next-found.result c.next-found.ensures
          (rw c.self.view_is c.loop-n.invariant.past)))
          c.skip-n-in-loop-n.ensures.skips;
      few = c.skip-n-in-loop-n.ensures.few;
    }

pub loop-n-smaller : goal.loop-n-smaller
loop-n-smaller c = let order : c.min-later.result ≤ c.skip-n-in-loop-n.result = c.skip-n-in-loop-n.ensures.skips.order in omega (arith, c.min-later.ensures, c.loop-n-test.true)

pub returns-then-found-later : goal.returns-then-found-later
returns-then-found-later c = record {
  past = subst (λ r. IsPastIn c.args.groups.now c.args.row r c.args.from c.next-found.result) c.self.view_is
      (past_in c.self.inside.frames c.self.inside.sources.items c.self.inside.filled c.self.inside.groups c.self.invariant c.args.groups.now c.args.row c.args.from c.loop-n.n c.min-later.result c.next-found.result c.next-found.ensures
      (rw c.self.view_is c.loop-n.invariant.past));
  within = omega (arith, c.next-found.ensures.within, c.min-later.ensures);
}

pub returns : goal.returns
returns c = record { past = in_less c.args.groups.now c.args.row c.args.self.now c.args.from c.args.end c.loop-n.n c.requires.order c.loop-n-test.false c.loop-n.invariant.past; within = omega arith }
