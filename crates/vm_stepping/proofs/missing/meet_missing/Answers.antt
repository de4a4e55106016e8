use Rattle.vm_console.proofs.Composes.{Appends-nil}
use Rattle.std.proofs.Common.{◌∙◌, ap, refl, sym}
use Rattle.vm_state.specs.Partition.{guest_of}
use Rattle.vm_state.specs.Step.{Fault, by_try, faulted, stopped}
use Rattle.vm_state.specs.Stops.{PastMemory}
use Rattle.vm_state.specs.Translation.{walk_of}
use Rattle.vm_state.specs.declared.exception.Exc.TheVariants as excs
use Rattle.vm_simulation_laws.specs.Loaded.{guest_try}
use Rattle.vm_stepping.proofs.MissingPages.{faults, made_as, present, refilled, stops}
use Rattle.vm_stepping.proofs.Noting.{missing_fault, missing_stop}
use Rattle.vm_stepping.proofs.PayingMet.{fault_pays, fill_pays, stop_pays}
use Rattle.vm_stepping.proofs.missing.meet_missing.Goals as goal

pub fill_found-requires-clause-present : goal.fill_found-requires-clause-present
fill_found-requires-clause-present g c = present (g.H.Hardware.machine c.args.machine.now) c.args.s.now c.args.g.now c.args.byte.va c.args.byte.intent c.requires.stands c.requires.missed c.in-Frame.pa c.in-Frame.entry c.in-Frame.table (sym c.in-Frame.is ∙ c.walk_found.ensures ∙ ap (λ m. walk_of (guest_of (g.H.Hardware.machine c.args.machine.now).memory c.args.g.now) c.args.byte.va m c.args.byte.intent) c.current.ensures)

pub returns-in-Frame-clause-met : goal.returns-in-Frame-clause-met
returns-in-Frame-clause-met g c = (refilled (g.H.Hardware.machine c.args.machine.now) c.args.s.now c.args.g.now c.args.byte.va c.args.byte.intent c.requires.stands c.requires.missed c.in-Frame.pa c.in-Frame.entry c.in-Frame.table (sym c.in-Frame.is ∙ c.walk_found.ensures ∙ ap (λ m. walk_of (guest_of (g.H.Hardware.machine c.args.machine.now).memory c.args.g.now) c.args.byte.va m c.args.byte.intent) c.current.ensures) (g.H.Hardware.machine c.fill_found.new.machine) c.fill_found.new.self c.fill_found.ensures, refl, Appends-nil g.T.Port.may c.args.port.now)

pub returns-in-Fault-clause-met : goal.returns-in-Fault-clause-met
returns-in-Fault-clause-met g c =
    let own = guest_of (g.H.Hardware.machine c.args.machine.now).memory c.args.g.now in
    made_as g.T.Port.may (by_try own (guest_try own)) (faulted own (excs.Memory c.in-Fault.trouble)) c.args.port.now c.fault.new.port (g.H.Hardware.machine c.args.machine.now) c.args.s.now c.args.g.now c.args.counts.now (g.H.Hardware.machine c.fault.new.machine) c.fault.new.s c.fault.new.g c.fault.new.counts
    (faults (g.H.Hardware.machine c.args.machine.now) c.args.s.now c.args.g.now c.args.byte.va c.args.byte.intent c.requires.stands c.requires.missed c.in-Fault.trouble (sym c.in-Fault.is ∙ c.walk_found.ensures ∙ ap (λ m. walk_of (guest_of (g.H.Hardware.machine c.args.machine.now).memory c.args.g.now) c.args.byte.va m c.args.byte.intent) c.current.ensures)) c.fault.ensures.made

pub returns-in-Beyond-clause-met : goal.returns-in-Beyond-clause-met
returns-in-Beyond-clause-met g c =
    let own = guest_of (g.H.Hardware.machine c.args.machine.now).memory c.args.g.now in
    made_as g.T.Port.may (by_try own (guest_try own)) (stopped own PastMemory Fault) c.args.port.now c.stop_past_memory.new.port (g.H.Hardware.machine c.args.machine.now) c.args.s.now c.args.g.now c.args.counts.now (g.H.Hardware.machine c.args.machine.now) c.args.s.now c.stop_past_memory.new.g c.stop_past_memory.new.counts
    (stops (g.H.Hardware.machine c.args.machine.now) c.args.s.now c.args.g.now c.args.byte.va c.args.byte.intent c.requires.stands c.requires.missed (sym c.in-Beyond.is ∙ c.walk_found.ensures ∙ ap (λ m. walk_of (guest_of (g.H.Hardware.machine c.args.machine.now).memory c.args.g.now) c.args.byte.va m c.args.byte.intent) c.current.ensures)) c.stop_past_memory.ensures.made

pub returns-in-Frame-clause-pays : goal.returns-in-Frame-clause-pays
returns-in-Frame-clause-pays g c = λ missed were. fill_pays (g.H.Hardware.machine c.args.machine.now) c.args.s.now c.args.g.now c.args.byte.va c.args.byte.intent c.requires.stands c.requires.missed missed were c.in-Frame.pa c.in-Frame.entry c.in-Frame.table (sym c.in-Frame.is ∙ c.walk_found.ensures ∙ ap (λ m. walk_of (guest_of (g.H.Hardware.machine c.args.machine.now).memory c.args.g.now) c.args.byte.va m c.args.byte.intent) c.current.ensures) (g.H.Hardware.machine c.fill_found.new.machine) c.fill_found.new.self c.fill_found.ensures

pub returns-in-Fault-clause-pays : goal.returns-in-Fault-clause-pays
returns-in-Fault-clause-pays g c = λ missed were.
    fault_pays (g.H.Hardware.machine c.args.machine.now) c.args.s.now c.args.g.now c.args.byte.va c.args.byte.intent c.requires.stands c.requires.missed missed were g.T.Port.may c.args.port.now c.fault.new.port c.args.counts.now (g.H.Hardware.machine c.fault.new.machine) c.fault.new.s c.fault.new.g c.fault.new.counts
    c.in-Fault.trouble (sym c.in-Fault.is ∙ c.walk_found.ensures ∙ ap (λ m. walk_of (guest_of (g.H.Hardware.machine c.args.machine.now).memory c.args.g.now) c.args.byte.va m c.args.byte.intent) c.current.ensures) c.fault.ensures.made

pub returns-in-Beyond-clause-pays : goal.returns-in-Beyond-clause-pays
returns-in-Beyond-clause-pays g c = λ missed were.
    stop_pays (g.H.Hardware.machine c.args.machine.now) c.args.s.now c.args.g.now c.args.byte.va c.args.byte.intent c.requires.stands c.requires.missed missed were g.T.Port.may c.args.port.now c.stop_past_memory.new.port c.args.counts.now (g.H.Hardware.machine c.args.machine.now) c.args.s.now c.stop_past_memory.new.g c.stop_past_memory.new.counts
    (sym c.in-Beyond.is ∙ c.walk_found.ensures ∙ ap (λ m. walk_of (guest_of (g.H.Hardware.machine c.args.machine.now).memory c.args.g.now) c.args.byte.va m c.args.byte.intent) c.current.ensures) c.stop_past_memory.ensures.made

pub returns-in-Fault-clause-note : goal.returns-in-Fault-clause-note
returns-in-Fault-clause-note g c =
    missing_fault (g.H.Hardware.machine c.args.machine.now) c.args.s.now c.args.g.now c.args.byte.va c.args.byte.intent c.requires.missed c.in-Fault.trouble c.fault.new.note
    (sym c.in-Fault.is ∙ c.walk_found.ensures ∙ ap (λ m. walk_of (guest_of (g.H.Hardware.machine c.args.machine.now).memory c.args.g.now) c.args.byte.va m c.args.byte.intent) c.current.ensures) c.fault.ensures.note

pub returns-in-Beyond-clause-note : goal.returns-in-Beyond-clause-note
returns-in-Beyond-clause-note g c =
    missing_stop (g.H.Hardware.machine c.args.machine.now) c.args.s.now c.args.g.now c.args.byte.va c.args.byte.intent c.requires.missed c.stop_past_memory.new.note
    (sym c.in-Beyond.is ∙ c.walk_found.ensures ∙ ap (λ m. walk_of (guest_of (g.H.Hardware.machine c.args.machine.now).memory c.args.g.now) c.args.byte.va m c.args.byte.intent) c.current.ensures) c.stop_past_memory.ensures.note
