use Rattle.std.proofs.Common.{◌∙◌, subst, sym}
use Rattle.std.specs.Prelude.{slice_index}
use Rattle.vax_table.specs.Interaction.{outcome}
use Rattle.vm_emulate.specs.Readings.{ArePopped}
use Rattle.vm_emulate.proofs.Returning.{returns_done, returns_refused}
use Rattle.vm_state.specs.Contexts.{two_popped}
use Rattle.vm_state.specs.Partition.{guest_of}
use Rattle.vm_state.specs.Translation.{space_of}
use Rattle.vm_emulate.proofs.returns.return_from.Goals as goal

pub returns-in-Ok : goal.returns-in-Ok
returns-in-Ok g c =
    let m = g.H.Hardware.machine c.args.machine.now in
    let whole = guest_of m.memory c.args.g.now in
    returns_done m c.args.g.now c.args.t.now c.go_after.new.g c.return_to.new.g c.in-Ok.popped
    (subst (ArePopped whole (outcome (space_of whole) (two_popped (slice_index c.args.t.now.regs 14)))) c.in-Ok.is c.read_popped.ensures)
    (sym c.rei_allowed.ensures ∙ c.if-rei_allowed.true) c.go_after.ensures.state c.go_after.ensures.place c.return_to.ensures.state c.return_to.ensures.place

pub returns-in-Ok-2 : goal.returns-in-Ok-2
returns-in-Ok-2 g c =
    let m = g.H.Hardware.machine c.args.machine.now in
    let whole = guest_of m.memory c.args.g.now in
    returns_refused m c.args.g.now c.args.t.now c.in-Ok.popped
    (subst (ArePopped whole (outcome (space_of whole) (two_popped (slice_index c.args.t.now.regs 14)))) c.in-Ok.is c.read_popped.ensures)
    (sym c.rei_allowed.ensures ∙ c.if-rei_allowed.false)
