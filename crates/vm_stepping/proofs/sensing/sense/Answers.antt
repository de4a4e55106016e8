use Rattle.vm_stepping.proofs.SensingMade.{fault_proper, fault_stays, made_done, made_fault_then, made_modify, made_past, made_stopped, refilled, refilled_keeps, shows_nothing_then}
use Rattle.vm_stepping.proofs.SensingNotes.{notes_done, notes_fault, notes_modify, notes_past, notes_stopped}
use Rattle.vax_hw.specs.Machine.{Machine}
use Rattle.vm_stepping.proofs.Paying.{kept_owe}
use Rattle.vm_stepping.proofs.PayingMet.{made_settles}
use Rattle.std.proofs.Common.{refl, ap, arith}
use Rattle.vm_stepping.proofs.sensing.sense.Goals as goal

pub fault-requires-clause-proper : goal.fault-requires-clause-proper
fault-requires-clause-proper g c =
    fault_proper g.T.Port.may c.args.t.now c.emulate.result c.args.port.now c.emulate.new.port (g.H.Hardware.machine c.args.machine.now) c.args.s.now c.args.g.now c.args.counts.now (g.H.Hardware.machine c.emulate.new.machine) c.emulate.new.s c.emulate.new.g
    c.requires.stands c.requires.trapped c.have_registers.ensures.trap c.have_registers.ensures.guest c.emulate.ensures.emulates c.emulate.ensures.shown
    c.in-Fault.e c.in-Fault.is

pub returns-in-Done : goal.returns-in-Done
returns-in-Done g c =
    let made = made_done g.T.Port.may c.args.t.now c.emulate.result c.args.port.now c.emulate.new.port (g.H.Hardware.machine c.args.machine.now) c.args.s.now c.args.g.now c.args.counts.now (g.H.Hardware.machine c.emulate.new.machine) c.emulate.new.s c.emulate.new.g
    c.requires.stands c.requires.trapped c.have_registers.ensures.trap c.have_registers.ensures.guest c.emulate.ensures.emulates c.emulate.ensures.shown
    c.in-Done.is in
    record {
      met = made;
      pays = made_settles 0 c.requires.stands refl c.requires.filled (omega arith) made;
      note = notes_done (g.H.Hardware.machine c.args.machine.now) c.args.s.now c.args.g.now (g.H.Hardware.machine c.emulate.new.machine) c.emulate.new.s c.emulate.new.g c.args.t.now c.emulate.result c.requires.trapped c.emulate.ensures.emulates c.in-Done.is;
    }

pub returns-in-SetModify : goal.returns-in-SetModify
returns-in-SetModify g c =
    let made = made_modify g.T.Port.may c.args.t.now c.emulate.result c.args.port.now c.emulate.new.port (g.H.Hardware.machine c.args.machine.now) c.args.s.now c.args.g.now c.args.counts.now (g.H.Hardware.machine c.emulate.new.machine) c.emulate.new.s c.emulate.new.g
    c.requires.stands c.requires.trapped c.have_registers.ensures.trap c.have_registers.ensures.guest c.emulate.ensures.emulates c.emulate.ensures.shown
    c.in-SetModify.va c.in-SetModify.is in
    record {
      met = made;
      pays = made_settles 0 c.requires.stands refl c.requires.filled (omega arith) made;
      note = notes_modify (g.H.Hardware.machine c.args.machine.now) c.args.s.now c.args.g.now (g.H.Hardware.machine c.emulate.new.machine) c.emulate.new.s c.emulate.new.g c.args.t.now c.emulate.result c.requires.trapped c.emulate.ensures.emulates c.in-SetModify.va c.page_note.result c.in-SetModify.is c.page_note.ensures;
    }

pub returns-in-Fault : goal.returns-in-Fault
returns-in-Fault g c =
    let made = made_fault_then g.T.Port.may c.args.t.now c.emulate.result c.args.port.now c.emulate.new.port (g.H.Hardware.machine c.args.machine.now) c.args.s.now c.args.g.now c.args.counts.now (g.H.Hardware.machine c.emulate.new.machine) c.emulate.new.s c.emulate.new.g
    c.requires.stands c.requires.trapped c.have_registers.ensures.trap c.have_registers.ensures.guest c.emulate.ensures.emulates c.emulate.ensures.shown
    c.in-Fault.e c.fault.new.port (g.H.Hardware.machine c.fault.new.machine) c.fault.new.s c.fault.new.g c.fault.new.counts c.in-Fault.is c.fault.ensures.made in
    record {
      met = made;
      pays = made_settles 0 c.requires.stands refl c.requires.filled (omega arith) made;
      note = notes_fault (g.H.Hardware.machine c.args.machine.now) c.args.s.now c.args.g.now (g.H.Hardware.machine c.emulate.new.machine) c.emulate.new.s c.emulate.new.g c.args.t.now c.emulate.result c.requires.trapped c.emulate.ensures.emulates c.in-Fault.e c.fault.new.note c.in-Fault.is (fault_stays g.T.Port.may c.args.t.now c.emulate.result c.args.port.now c.emulate.new.port (g.H.Hardware.machine c.args.machine.now) c.args.s.now c.args.g.now c.args.counts.now (g.H.Hardware.machine c.emulate.new.machine) c.emulate.new.s c.emulate.new.g
          c.requires.stands c.requires.trapped c.have_registers.ensures.trap c.have_registers.ensures.guest c.emulate.ensures.emulates c.emulate.ensures.shown c.in-Fault.e c.in-Fault.is) c.fault.ensures.note;
    }

pub returns-in-Stopped : goal.returns-in-Stopped
returns-in-Stopped g c =
    let made = made_stopped g.T.Port.may c.args.t.now c.emulate.result c.args.port.now c.emulate.new.port (g.H.Hardware.machine c.args.machine.now) c.args.s.now c.args.g.now c.args.counts.now (g.H.Hardware.machine c.emulate.new.machine) c.emulate.new.s c.emulate.new.g
    c.requires.stands c.requires.trapped c.have_registers.ensures.trap c.have_registers.ensures.guest c.emulate.ensures.emulates c.emulate.ensures.shown
    c.in-Stopped.code c.show_stop.new.port c.in-Stopped.is c.show_stop.ensures in
    record {
      met = made;
      pays = made_settles 0 c.requires.stands refl c.requires.filled (omega arith) made;
      note = notes_stopped (g.H.Hardware.machine c.args.machine.now) c.args.s.now c.args.g.now (g.H.Hardware.machine c.emulate.new.machine) c.emulate.new.s c.emulate.new.g c.args.t.now c.emulate.result c.requires.trapped c.emulate.ensures.emulates c.in-Stopped.code c.in-Stopped.is;
    }

pub returns-in-PastMemory : goal.returns-in-PastMemory
returns-in-PastMemory g c =
    let made = made_past g.T.Port.may c.args.t.now c.emulate.result c.args.port.now c.emulate.new.port (g.H.Hardware.machine c.args.machine.now) c.args.s.now c.args.g.now c.args.counts.now (g.H.Hardware.machine c.emulate.new.machine) c.emulate.new.s c.emulate.new.g
    c.requires.stands c.requires.trapped c.have_registers.ensures.trap c.have_registers.ensures.guest c.emulate.ensures.emulates c.emulate.ensures.shown
    c.show_stop-in-PastMemory.new.port c.in-PastMemory.is c.show_stop-in-PastMemory.ensures in
    record {
      met = made;
      pays = made_settles 0 c.requires.stands refl c.requires.filled (omega arith) made;
      note = notes_past (g.H.Hardware.machine c.args.machine.now) c.args.s.now c.args.g.now (g.H.Hardware.machine c.emulate.new.machine) c.emulate.new.s c.emulate.new.g c.args.t.now c.emulate.result c.requires.trapped c.emulate.ensures.emulates c.in-PastMemory.is;
    }

pub returns-in-Filled-clause-met : goal.returns-in-Filled-clause-met
returns-in-Filled-clause-met g c = (
  refilled g.T.Port.may c.args.t.now c.emulate.result c.args.port.now c.emulate.new.port (g.H.Hardware.machine c.args.machine.now) c.args.s.now c.args.g.now c.args.counts.now (g.H.Hardware.machine c.emulate.new.machine) c.emulate.new.s c.emulate.new.g
      c.requires.stands c.requires.trapped c.have_registers.ensures.trap c.have_registers.ensures.guest c.emulate.ensures.emulates c.emulate.ensures.shown
      c.in-Filled.is,
  refl,
  shows_nothing_then g.T.Port.may c.args.t.now c.emulate.result c.args.port.now c.emulate.new.port (g.H.Hardware.machine c.args.machine.now) c.args.s.now c.args.g.now c.args.counts.now (g.H.Hardware.machine c.emulate.new.machine) c.emulate.new.s c.emulate.new.g
      c.requires.stands c.requires.trapped c.have_registers.ensures.trap c.have_registers.ensures.guest c.emulate.ensures.emulates c.emulate.ensures.shown
      c.in-Filled.is,
)

pub returns-in-Filled-clause-pays : goal.returns-in-Filled-clause-pays
returns-in-Filled-clause-pays g c =
    kept_owe (g.H.Hardware.machine c.args.machine.now) c.args.s.now c.args.g.now (g.H.Hardware.machine c.emulate.new.machine) c.emulate.new.s
    (refilled_keeps g.T.Port.may c.args.t.now c.emulate.result c.args.port.now c.emulate.new.port (g.H.Hardware.machine c.args.machine.now) c.args.s.now c.args.g.now c.args.counts.now (g.H.Hardware.machine c.emulate.new.machine) c.emulate.new.s c.emulate.new.g
    c.requires.stands c.requires.trapped c.have_registers.ensures.trap c.have_registers.ensures.guest c.emulate.ensures.emulates c.emulate.ensures.shown c.in-Filled.is)
    (ap (λ (m : Machine). m.misses) c.emulate.ensures.emulates.only.rest)
