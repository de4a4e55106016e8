use Rattle.std.proofs.Common.{◌∙◌, sym}
use Rattle.vm_exception.proofs.Marking.{mark_one}
use Rattle.vm_exception.proofs.writes.mark_entry.Goals as goal

pub returns-then-not-modified : goal.returns-then-not-modified
returns-then-not-modified g c = mark_one (g.H.Hardware.machine c.args.machine.now) (g.H.Hardware.machine c.store_long.new.machine) c.args.s.now c.store_long.new.self c.args.base c.args.place c.read_long.result c.requires.base c.requires.inside c.read_long.ensures.value (sym c.modified.ensures ∙ c.if-not-modified.true) c.store_long.ensures
