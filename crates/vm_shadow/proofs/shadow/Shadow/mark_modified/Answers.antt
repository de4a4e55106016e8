use Rattle.std.proofs.Common.{◌∙◌, ap}
use Rattle.vax_arch.specs.Walk.{page_of, with_modify}
use Rattle.vm_shadow.proofs.Marking.{found_aligned, marks_found}
use Rattle.vm_shadow.proofs.shadow.Shadow.mark_modified.Goals as goal

pub store_long-requires-clause-aligned : goal.store_long-requires-clause-aligned
store_long-requires-clause-aligned g c = found_aligned (g.H.Hardware.machine c.args.machine.now).memory c.args.self.now c.args.g.now (page_of c.args.va) c.in-Found.place c.in-Found.table c.requires c.in-Found.ensures.is

pub returns-in-Found : goal.returns-in-Found
returns-in-Found g c = marks_found (page_of c.args.va) c.args.g.now (g.H.Hardware.machine c.args.machine.now) (g.H.Hardware.machine c.store_long.new.machine) c.args.self.now c.store_long.new.self c.in-Found.place _ c.in-Found.table c.requires c.in-Found.ensures.is c.in-Found.ensures.inside (c.with_modify.ensures ∙ ap with_modify c.read_long.ensures.value) c.store_long.ensures
