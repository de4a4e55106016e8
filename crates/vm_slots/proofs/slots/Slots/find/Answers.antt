use Rattle.std.proofs.Common.{◌∙◌, ap}
use Rattle.vm_slots.specs.Held.{slot_of}
use Rattle.vm_slots.proofs.HeldLaws.{found_law}
use Rattle.vm_slots.proofs.slots.Slots.find.Goals as goal

pub returns-clause-held : goal.returns-clause-held
returns-clause-held c =
    rw c.self.view_is at (found_law c.args.c.now c.self.inside.held.items c.slot_among.result c.self.invariant (c.slot_among.ensures ∙ ap (slot_of c.args.c.now) c.as_slice.ensures.value))
