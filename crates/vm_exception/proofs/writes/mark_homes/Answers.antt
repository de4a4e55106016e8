use Rattle.std.proofs.Common.{◌≡◌, arith, refl, slice_index_or, None, rules, subst, sym}
use Rattle.std.proofs.lemmas.List.{get_or_default}
use Rattle.vm_exception.specs.declared.pushes.Home.{Home}
use Rattle.vm_exception.proofs.Marking.{IsMarked, marked_now, marking_all, marking_next, marking_none, marking_skip, still_based, still_entry, still_keeps}
use Rattle.vm_exception.proofs.writes.mark_homes.Goals as goal
use Rattle.vm_exception.proofs.writes.mark_homes.Goals.{then-ne, in-Some, in_default, else-ne}

pub loop-home-init : goal.loop-home-init
loop-home-init g c = (marking_none c.args.homes.now (g.H.Hardware.machine c.args.machine.now) c.args.s.now, refl)

pub mark_entry-requires-clause-keeps : goal.mark_entry-requires-clause-keeps
mark_entry-requires-clause-keeps g c =
    let n = c.loop-home.home-index in
    let h : Home = slice_index_or c.args.homes.now n (record { place = 0; entry = None; value = 0 }) in
    still_keeps c.args.homes.now n c.args.base (g.H.Hardware.machine c.args.machine.now) (g.H.Hardware.machine c.loop-home.machine) c.args.s.now c.loop-home.s h c.loop-home-test.true (get_or_default c.args.homes.now n _ h c.loop-home-test.true) c.requires.keeps c.requires.base c.requires.homes c.loop-home.invariant.0

pub mark_entry-requires-clause-base : goal.mark_entry-requires-clause-base
mark_entry-requires-clause-base g c =
    let n = c.loop-home.home-index in
    let h : Home = slice_index_or c.args.homes.now n (record { place = 0; entry = None; value = 0 }) in
    still_based c.args.homes.now n c.args.base (g.H.Hardware.machine c.args.machine.now) (g.H.Hardware.machine c.loop-home.machine) c.args.s.now c.loop-home.s h c.loop-home-test.true (get_or_default c.args.homes.now n _ h c.loop-home-test.true) c.requires.keeps c.requires.base c.requires.homes c.loop-home.invariant.0

pub mark_entry-requires-clause-aligned : goal.mark_entry-requires-clause-aligned
mark_entry-requires-clause-aligned g c =
    let n = c.loop-home.home-index in
    let h : Home = slice_index_or c.args.homes.now n (record { place = 0; entry = None; value = 0 }) in
    (still_entry c.args.homes.now n c.args.base (g.H.Hardware.machine c.args.machine.now) (g.H.Hardware.machine c.loop-home.machine) c.args.s.now c.loop-home.s h c.loop-home-test.true (get_or_default c.args.homes.now n _ h c.loop-home-test.true) c.requires.keeps c.requires.base c.requires.homes c.loop-home.invariant.0 c.in-Some.place c.in-Some.is).0

pub mark_entry-requires-clause-inside : goal.mark_entry-requires-clause-inside
mark_entry-requires-clause-inside g c =
    let n = c.loop-home.home-index in
    let h : Home = slice_index_or c.args.homes.now n (record { place = 0; entry = None; value = 0 }) in
    (still_entry c.args.homes.now n c.args.base (g.H.Hardware.machine c.args.machine.now) (g.H.Hardware.machine c.loop-home.machine) c.args.s.now c.loop-home.s h c.loop-home-test.true (get_or_default c.args.homes.now n _ h c.loop-home-test.true) c.requires.keeps c.requires.base c.requires.homes c.loop-home.invariant.0 c.in-Some.place c.in-Some.is).1

pub loop-home-preserved : goal.loop-home-preserved
loop-home-preserved g c =
    let n = c.loop-home.home-index in
    let h : Home = slice_index_or c.args.homes.now n (record { place = 0; entry = None; value = 0 }) in
    let m1 = g.H.Hardware.machine c.loop-home.machine in
    let s1 = c.loop-home.s in
    elim c.if-ne.branch [
      | then-ne w ↦ rw (w.machine-is, w.s-is, w.last-is) (elim w.match-home.branch [
        | in-Some v ↦ rw (v.machine-is, v.s-is) (marking_next c.args.homes.now n c.args.base (g.H.Hardware.machine c.args.machine.now) (g.H.Hardware.machine c.loop-home.machine) c.args.s.now c.loop-home.s h c.loop-home-test.true (get_or_default c.args.homes.now n _ h c.loop-home-test.true) c.requires.keeps c.requires.base c.requires.homes c.loop-home.invariant.0 v.in-Some.place (g.H.Hardware.machine v.mark_entry.new.machine) v.mark_entry.new.s v.in-Some.is v.mark_entry.ensures, marked_now c.args.homes.now n c.args.base (g.H.Hardware.machine c.args.machine.now) (g.H.Hardware.machine c.loop-home.machine) c.args.s.now c.loop-home.s h c.loop-home-test.true (get_or_default c.args.homes.now n _ h c.loop-home-test.true) c.requires.keeps c.requires.base c.requires.homes c.loop-home.invariant.0 v.in-Some.place (g.H.Hardware.machine v.mark_entry.new.machine) v.mark_entry.new.s v.in-Some.is v.mark_entry.ensures)
        | in_default v ↦
            let none : h.entry ≡ None = search rules in
            let marked : IsMarked h.entry m1 s1 = subst (λ x. IsMarked x m1 s1) (sym none) refl in
            rw (v.machine-is, v.s-is) (marking_skip c.args.homes.now n c.args.base (g.H.Hardware.machine c.args.machine.now) (g.H.Hardware.machine c.loop-home.machine) c.args.s.now c.loop-home.s h c.loop-home-test.true (get_or_default c.args.homes.now n _ h c.loop-home-test.true) c.requires.keeps c.requires.base c.requires.homes c.loop-home.invariant.0 marked, marked)
      ])
      | else-ne w ↦
          let same : h.entry ≡ c.loop-home.last = search rules in
          let marked : IsMarked h.entry m1 s1 = subst (λ x. IsMarked x m1 s1) (sym same) c.loop-home.invariant.1 in
          rw (w.machine-is, w.s-is, w.last-is) (marking_skip c.args.homes.now n c.args.base (g.H.Hardware.machine c.args.machine.now) (g.H.Hardware.machine c.loop-home.machine) c.args.s.now c.loop-home.s h c.loop-home-test.true (get_or_default c.args.homes.now n _ h c.loop-home-test.true) c.requires.keeps c.requires.base c.requires.homes c.loop-home.invariant.0 marked, c.loop-home.invariant.1)
    ]

pub returns : goal.returns
returns g c = marking_all c.args.homes.now c.loop-home.home-index (g.H.Hardware.machine c.args.machine.now) (g.H.Hardware.machine c.loop-home.machine) c.args.s.now c.loop-home.s (omega (arith, c.loop-home-test.false)) c.loop-home.invariant.0
