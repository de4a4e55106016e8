use Rattle.std.proofs.Common.{◌∙◌, sym}
use Rattle.vax_arch.specs.Walk.{page_of}
use Rattle.vm_shadow.proofs.Guarding.{closes_else, closes_then}
use Rattle.vm_shadow.proofs.shadow.Shadow.close_write.Goals as goal

pub returns-then-modified : goal.returns-then-modified
returns-then-modified g c = closes_then (g.H.Hardware.machine c.args.machine.now) _ c.args.self.now (page_of c.args.va) c.place-place.result _ c.requires.fits c.requires.covered c.place-place.ensures.is c.read_long.ensures.value (sym c.modified.ensures ∙ c.if-modified.true) c.write_long.ensures

pub returns-else-modified : goal.returns-else-modified
returns-else-modified g c = closes_else (g.H.Hardware.machine c.args.machine.now) c.args.self.now (page_of c.args.va) c.place-place.result _ c.place-place.ensures.is c.read_long.ensures.value (sym c.modified.ensures ∙ c.if-modified.false)
