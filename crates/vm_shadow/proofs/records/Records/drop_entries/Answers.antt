use Rattle.std.proofs.Common.{arith, ◌≡◌, ◌≤◌, ◌+◌, ◌*◌, length, sym, ap, ◌∙◌, subst, false}
use Rattle.vm_shadow.specs.Calls.{DropsEntries, is_dropped, remembered}
use Rattle.vm_shadow.proofs.Remembering.{past_both, past_one}
use Rattle.vm_shadow.proofs.Scanning.{drops_more, drops_none, drops_taken}
use Rattle.vm_shadow.proofs.records.Records.drop_entries.Goals as goal
use Rattle.vm_shadow.proofs.records.Records.drop_entries.Goals.{then-takes, else-takes}

pub loop-n-init : goal.loop-n-init
loop-n-init g c = record {
  within = c.next-n.ensures.within;
  order = c.next-n.ensures.past.order;
  drops = drops_more c.args.at c.args.first c.args.first c.next-n.result c.args.which _ _ _ _ c.next-n.ensures.past (drops_none c.args.at c.args.first c.args.which (g.H.Hardware.machine c.args.machine.now) c.args.self.now);
}

pub loop-n-preserved : goal.loop-n-preserved
loop-n-preserved g c =
    let i = c.loop-n.invariant in
    let n = c.loop-n.n in
    let s = i.drops in
    let room : 512 * (c.args.at + 580) ≤ length (g.H.Hardware.machine c.loop-n.machine).memory = omega (arith, c.requires.room, s.only.tables.size) in
    let takes : c.takes.result ≡ is_dropped c.args.which (remembered c.loop-n.self n) = c.takes.ensures ∙ ap (is_dropped c.args.which) c.look.ensures.is in
    let past = c.next-n-in-loop-n.ensures.past in
    record {
      within = c.next-n-in-loop-n.ensures.within;
      order = omega (arith, i.order, past.order);
      drops = elim c.if-takes.branch [
        | then-takes w ↦ drops_more c.args.at c.args.first (n + 1) c.next-n-in-loop-n.result c.args.which _ _ _ c.if-takes.self past
            (rw (w.self-is, w.remove.ensures, c.look.ensures.same, w.machine-is, w.write_long.ensures)
            (drops_taken c.args.at c.args.first n w.entry_place.result c.args.which (g.H.Hardware.machine c.args.machine.now) (g.H.Hardware.machine c.loop-n.machine) c.args.self.now c.loop-n.self i.order (omega (arith, c.requires.few, c.loop-n-test.true)) c.requires.whole room w.entry_place.ensures (sym takes ∙ w.if-takes.true) s))
        | else-takes w ↦
            let same : c.if-takes.self ≡ c.loop-n.self = w.self-is ∙ c.look.ensures.same in
            let kept : is_dropped c.args.which (remembered c.if-takes.self n) ≡ false = ap (λ r. is_dropped c.args.which (remembered r n)) same ∙ sym takes ∙ w.if-takes.false in
            drops_more c.args.at c.args.first n c.next-n-in-loop-n.result c.args.which _ _ _ c.if-takes.self (past_both c.args.which c.if-takes.self n (n + 1) c.next-n-in-loop-n.result (past_one c.args.which c.if-takes.self n kept) past)
            (rw (same, w.machine-is) s)
      ];
    }

pub loop-n-smaller : goal.loop-n-smaller
loop-n-smaller g c = omega (arith, c.next-n-in-loop-n.ensures.past.order, c.loop-n-test.true)

pub returns : goal.returns
returns g c =
    let end : c.loop-n.n ≡ c.args.end = omega (arith, c.loop-n.invariant.within, c.loop-n-test.false) in
    subst (λ n. DropsEntries c.args.at c.args.first n c.args.which (g.H.Hardware.machine c.args.machine.now) c.args.self.now (g.H.Hardware.machine c.loop-n.machine) c.loop-n.self) end c.loop-n.invariant.drops
