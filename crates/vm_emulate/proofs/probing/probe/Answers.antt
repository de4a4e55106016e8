use Rattle.std.proofs.Common.{subst, sym}
use Rattle.vax_arch.specs.Walk.{page_of}
use Rattle.vm_emulate.proofs.Probings.{plain_then, probe_done, probe_filled}
use Rattle.vm_shadow.specs.StandsFor.{IsPresent}
use Rattle.vm_state.specs.Partition.{guest_of}
use Rattle.vm_emulate.proofs.probing.probe.Goals as goal

pub fill_both-requires-clause-first : goal.fill_both-requires-clause-first
fill_both-requires-clause-first g c =
    (plain_then c.args.i c.args.t.now (g.H.Hardware.machine c.args.machine.now) c.args.s.now c.args.g.now c.requires c.in-Answers-default-true.is_accessible c.in-Answers-default-true.is_plain c.in-Answers-default-true.ensures c.in-Answers-default-true.is_plain-test).0

pub fill_both-requires-clause-second : goal.fill_both-requires-clause-second
fill_both-requires-clause-second g c =
    subst (λ x. IsPresent (guest_of (g.H.Hardware.machine c.args.machine.now).memory c.args.g.now) (page_of x)) (sym c.last_of.ensures)
    (plain_then c.args.i c.args.t.now (g.H.Hardware.machine c.args.machine.now) c.args.s.now c.args.g.now c.requires c.in-Answers-default-true.is_accessible c.in-Answers-default-true.is_plain c.in-Answers-default-true.ensures c.in-Answers-default-true.is_plain-test).1

pub returns-in-Answers-default-true : goal.returns-in-Answers-default-true
returns-in-Answers-default-true g c =
    probe_filled c.args.i c.args.t.now (g.H.Hardware.machine c.args.machine.now) c.args.s.now c.args.g.now c.requires c.in-Answers-default-true.is_accessible c.in-Answers-default-true.is_plain c.last_of.result (g.H.Hardware.machine c.fill_both.new.machine) c.fill_both.new.s
    c.in-Answers-default-true.ensures c.in-Answers-default-true.is_plain-test c.last_of.ensures c.fill_both.ensures

pub returns-in-Answers-default-false : goal.returns-in-Answers-default-false
returns-in-Answers-default-false g c =
    probe_done c.args.i c.args.t.now (g.H.Hardware.machine c.args.machine.now) c.args.s.now c.args.g.now c.requires c.in-Answers-default-false.is_accessible c.in-Answers-default-false.is_plain c.go_after.new.g c.set_probed.new.g
    c.in-Answers-default-false.ensures c.in-Answers-default-false.is_plain-test c.go_after.ensures.state c.go_after.ensures.place c.set_probed.ensures.state c.set_probed.ensures.place
