use Rattle.std.proofs.Common.{arith, ◌≡◌, ◌≤◌, ◌+◌, ◌*◌, length, ◌∙◌, refl, subst}
use Rattle.vm_shadow.specs.Marks.{IsPastIn, Shuts}
use Rattle.vm_shadow.proofs.Closing.{shuts_more, shuts_next, shuts_none}
use Rattle.vm_shadow.proofs.records.Records.close_entries.Goals as goal

pub loop-n-init : goal.loop-n-init
loop-n-init g c = record {
  within = c.next_in-n.ensures.within;
  same = refl;
  shuts = shuts_more c.args.at c.args.base 0 c.next_in-n.result c.args.frame c.args.ways.now _ _ c.args.self.now c.next_in-n.ensures.within c.next_in-n.ensures.past (shuts_none c.args.at c.args.base c.args.frame c.args.ways.now (g.H.Hardware.machine c.args.machine.now) c.args.self.now);
}

pub loop-n-preserved : goal.loop-n-preserved
loop-n-preserved g c =
    let i = c.loop-n.invariant in
    let n = c.loop-n.n in
    let s = i.shuts in
    let room : 512 * (c.args.at + 580) ≤ length (g.H.Hardware.machine c.loop-n.machine).memory = omega (arith, c.requires.room, s.only.tables.size) in
    let same = c.look-known.ensures.same ∙ i.same in
    record {
      within = c.next_in-n-in-loop-n.ensures.within;
      same = same;
      shuts = shuts_more c.args.at c.args.base (n + 1) c.next_in-n-in-loop-n.result c.args.frame c.args.ways.now _ _ c.args.self.now c.next_in-n-in-loop-n.ensures.within (subst (λ r. IsPastIn c.args.ways.now (576 * c.args.frame) r (n + 1) c.next_in-n-in-loop-n.result) same c.next_in-n-in-loop-n.ensures.past)
          (rw c.close_entry.ensures
          (shuts_next c.args.at c.args.base n c.entry_place.result c.args.frame c.args.ways.now (g.H.Hardware.machine c.args.machine.now) (g.H.Hardware.machine c.loop-n.machine) c.args.self.now _ (omega (arith, c.loop-n-test.true)) room c.entry_place.ensures refl s));
    }

pub loop-n-smaller : goal.loop-n-smaller
loop-n-smaller g c = omega (arith, c.next_in-n-in-loop-n.ensures.past.order, c.loop-n-test.true)

pub returns : goal.returns
returns g c =
    let end : c.loop-n.n ≡ 73728 = omega (arith, c.loop-n.invariant.within, c.loop-n-test.false) in
    record {
      shuts = subst (λ n. Shuts c.args.at c.args.base n c.args.frame c.args.ways.now (g.H.Hardware.machine c.args.machine.now) c.args.self.now (g.H.Hardware.machine c.loop-n.machine)) end c.loop-n.invariant.shuts;
      same = c.loop-n.invariant.same;
    }
