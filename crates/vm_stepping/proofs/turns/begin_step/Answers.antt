use Rattle.std.proofs.Common.{true, ap, sym, ◌∙◌}
use Rattle.std.specs.Prelude.{option_map}
use Rattle.vm_exception.specs.Sources.{source_of}
use Rattle.vm_stepping.proofs.Beginning.{begins_on, halted_on, interrupt_falls, interrupt_on, runs_by}
use Rattle.vm_stepping.proofs.Idling.{idle_falls, idles_on, pays_idle}
use Rattle.vm_stepping.proofs.NotingSteps.{notes_begun, notes_halted, notes_idle, notes_taken}
use Rattle.vm_stepping.proofs.PayingBegun.{pays_beginning, pays_halted, pays_interrupt}
use Rattle.vm_stepping.proofs.turns.begin_step.Goals as goal

pub returns-then-is_some-clause-proceeds : goal.returns-then-is_some-clause-proceeds
returns-then-is_some-clause-proceeds g c =
    halted_on g.T.Port.may c.args.port.now (g.H.Hardware.machine c.args.machine.now) c.args.s.now c.args.g.now c.args.counts.now c.args.left c.from.result c.of.result c.requires.stands (sym c.is_some.ensures ∙ c.if-is_some.true) c.from.ensures c.of.ensures

pub returns-in-Some-clause-proceeds : goal.returns-in-Some-clause-proceeds
returns-in-Some-clause-proceeds g c =
    interrupt_on (g.H.Hardware.machine c.args.machine.now) c.args.s.now c.args.g.now c.count_step.new.g c.requires.stands c.count_step.ensures.state c.count_step.ensures.place (runs_by c.args.g.now.halt (sym c.is_some.ensures ∙ c.if-is_some.false)) g.T.Port.may c.args.port.now c.take_interrupt.new.port c.args.counts.now c.args.left c.requires.some c.of-in-Some.result
    (source_of c.in-Some.source) (sym c.due.ensures ∙ ap (option_map source_of) c.in-Some.is) (g.H.Hardware.machine c.take_interrupt.new.machine) c.take_interrupt.new.s c.take_interrupt.new.g c.take_interrupt.new.counts c.take_interrupt.ensures.made c.of-in-Some.ensures

pub returns-in-Some-clause-falls : goal.returns-in-Some-clause-falls
returns-in-Some-clause-falls g c =
    interrupt_falls (g.H.Hardware.machine c.args.machine.now) c.args.s.now c.args.g.now c.count_step.new.g c.requires.stands c.count_step.ensures.state c.count_step.ensures.place (runs_by c.args.g.now.halt (sym c.is_some.ensures ∙ c.if-is_some.false)) g.T.Port.may c.args.port.now c.take_interrupt.new.port c.args.counts.now c.args.left c.requires.some c.of-in-Some.result
    (source_of c.in-Some.source) (sym c.due.ensures ∙ ap (option_map source_of) c.in-Some.is) (g.H.Hardware.machine c.take_interrupt.new.machine) c.take_interrupt.new.s c.take_interrupt.new.g c.take_interrupt.new.counts c.of-in-Some.ensures

pub returns-then-g-clause-proceeds : goal.returns-then-g-clause-proceeds
returns-then-g-clause-proceeds g c =
    idles_on (g.H.Hardware.machine c.args.machine.now) c.args.s.now c.args.g.now c.count_step.new.g c.idle.new.g c.requires.stands c.count_step.ensures.state c.count_step.ensures.place (runs_by c.args.g.now.halt (sym c.is_some.ensures ∙ c.if-is_some.false)) c.args.left c.requires.some c.idle.result c.args.counts.now c.idle.new.counts
    (sym c.due.ensures ∙ ap (option_map source_of) c.in_default.is) c.if-g.true c.idle.ensures g.T.Port.may c.args.port.now

pub returns-clause-proceeds : goal.returns-clause-proceeds
returns-clause-proceeds g c =
    begins_on (g.H.Hardware.machine c.args.machine.now) c.args.s.now c.args.g.now c.count_step.new.g c.requires.stands c.count_step.ensures.state c.count_step.ensures.place (runs_by c.args.g.now.halt (sym c.is_some.ensures ∙ c.if-is_some.false)) g.T.Port.may c.args.port.now c.args.port.now c.args.counts.now c.args.left c.requires.some (record { steps = c.args.left; counted = true })
    (sym c.due.ensures ∙ ap (option_map source_of) c.in_default.is) c.if-g.false

pub returns-then-is_some-clause-pays : goal.returns-then-is_some-clause-pays
returns-then-is_some-clause-pays g c = pays_halted (g.H.Hardware.machine c.args.machine.now) c.args.s.now c.args.g.now c.args.left c.of.result c.requires.stands (sym c.is_some.ensures ∙ c.if-is_some.true) c.of.ensures

pub returns-in-Some-clause-pays : goal.returns-in-Some-clause-pays
returns-in-Some-clause-pays g c =
    pays_interrupt (g.H.Hardware.machine c.args.machine.now) c.args.s.now c.args.g.now c.count_step.new.g c.requires.stands c.count_step.ensures.state c.count_step.ensures.place (runs_by c.args.g.now.halt (sym c.is_some.ensures ∙ c.if-is_some.false)) c.args.left c.requires.some
    g.T.Port.may c.args.port.now c.take_interrupt.new.port c.args.counts.now c.take_interrupt.new.counts (source_of c.in-Some.source) (g.H.Hardware.machine c.take_interrupt.new.machine) c.take_interrupt.new.s c.take_interrupt.new.g c.of-in-Some.result (sym c.due.ensures ∙ ap (option_map source_of) c.in-Some.is) c.take_interrupt.ensures.made c.of-in-Some.ensures

pub returns-then-g-clause-pays : goal.returns-then-g-clause-pays
returns-then-g-clause-pays g c =
    pays_idle (g.H.Hardware.machine c.args.machine.now) c.args.s.now c.args.g.now c.count_step.new.g c.idle.new.g c.requires.stands c.count_step.ensures.state c.count_step.ensures.place (runs_by c.args.g.now.halt (sym c.is_some.ensures ∙ c.if-is_some.false)) c.args.left c.requires.some c.idle.result c.args.counts.now c.idle.new.counts
    (sym c.due.ensures ∙ ap (option_map source_of) c.in_default.is) c.if-g.true c.idle.ensures

pub returns-then-g-clause-falls : goal.returns-then-g-clause-falls
returns-then-g-clause-falls g c =
    idle_falls (g.H.Hardware.machine c.args.machine.now) c.args.s.now c.args.g.now c.count_step.new.g c.idle.new.g c.requires.stands c.count_step.ensures.state c.count_step.ensures.place (runs_by c.args.g.now.halt (sym c.is_some.ensures ∙ c.if-is_some.false)) c.args.left c.requires.some c.idle.result c.args.counts.now c.idle.new.counts
    (sym c.due.ensures ∙ ap (option_map source_of) c.in_default.is) c.if-g.true c.idle.ensures

pub returns-clause-pays : goal.returns-clause-pays
returns-clause-pays g c =
    pays_beginning (g.H.Hardware.machine c.args.machine.now) c.args.s.now c.args.g.now c.count_step.new.g c.requires.stands c.count_step.ensures.state c.count_step.ensures.place (runs_by c.args.g.now.halt (sym c.is_some.ensures ∙ c.if-is_some.false)) c.args.left c.requires.some
    (sym c.due.ensures ∙ ap (option_map source_of) c.in_default.is) c.if-g.false

pub returns-then-is_some-clause-note : goal.returns-then-is_some-clause-note
returns-then-is_some-clause-note g c = notes_halted c.args.left c.of.result (g.H.Hardware.machine c.args.machine.now) c.args.g.now (sym c.is_some.ensures ∙ c.if-is_some.true) c.of.ensures

pub returns-in-Some-clause-note : goal.returns-in-Some-clause-note
returns-in-Some-clause-note g c =
    notes_taken (g.H.Hardware.machine c.args.machine.now) c.args.s.now c.args.g.now c.count_step.new.g c.requires.stands c.count_step.ensures.state c.count_step.ensures.place (runs_by c.args.g.now.halt (sym c.is_some.ensures ∙ c.if-is_some.false)) c.args.left (source_of c.in-Some.source) (g.H.Hardware.machine c.take_interrupt.new.machine) c.take_interrupt.new.g c.of-in-Some.result c.take_interrupt.new.note
    (sym c.due.ensures ∙ ap (option_map source_of) c.in-Some.is) c.of-in-Some.ensures c.take_interrupt.ensures.note

pub returns-then-g-clause-note : goal.returns-then-g-clause-note
returns-then-g-clause-note g c =
    notes_idle (g.H.Hardware.machine c.args.machine.now) c.args.s.now c.args.g.now c.count_step.new.g c.requires.stands c.count_step.ensures.state c.count_step.ensures.place (runs_by c.args.g.now.halt (sym c.is_some.ensures ∙ c.if-is_some.false)) c.args.left c.args.counts.now c.idle.new.counts c.idle.new.g c.idle.result
    (sym c.due.ensures ∙ ap (option_map source_of) c.in_default.is) c.if-g.true c.idle.ensures

pub returns-clause-note : goal.returns-clause-note
returns-clause-note g c =
    notes_begun (g.H.Hardware.machine c.args.machine.now) c.args.s.now c.args.g.now c.count_step.new.g c.requires.stands c.count_step.ensures.state c.count_step.ensures.place (runs_by c.args.g.now.halt (sym c.is_some.ensures ∙ c.if-is_some.false)) c.args.left _
    (sym c.due.ensures ∙ ap (option_map source_of) c.in_default.is) c.if-g.false
