use Rattle.std.proofs.Common.{◌∙◌, sym}
use Rattle.vm_state.specs.Partition.{guest_of}
use Rattle.vm_stepping.proofs.Meeting.{may_write, met_done}
use Rattle.vm_stepping.proofs.Noting.{notes_instruction}
use Rattle.vm_stepping.proofs.met.meet.Goals as goal

pub returns-clause-is : goal.returns-clause-is
returns-clause-is g c = met_done g.T.Port.may c.meet_told.result c.args.port.now c.meet_told.new.port (g.H.Hardware.machine c.args.machine.now) c.args.s.now c.args.g.now c.args.counts.now (g.H.Hardware.machine c.meet_told.new.machine) c.meet_told.new.s c.meet_told.new.g c.meet_told.new.counts c.meet_told.ensures.met

pub returns-clause-note : goal.returns-clause-note
returns-clause-note g c = notes_instruction c.meet_told.result (guest_of (g.H.Hardware.machine c.args.machine.now).memory c.args.g.now) c.meet_told.new.note c.meet_told.ensures.note

pub run_alone-requires-clause-written : goal.run_alone-requires-clause-written
run_alone-requires-clause-written g c = may_write (g.H.Hardware.machine c.args.machine.now) c.args.s.now c.args.g.now c.args.exit.now c.in-Modify.va c.in-Modify.is c.requires.stands c.requires.meets (sym c.is_clear.ensures ∙ c.if-not-is_clear.true)
