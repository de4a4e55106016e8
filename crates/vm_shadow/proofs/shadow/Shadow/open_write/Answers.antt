use Rattle.std.proofs.Common.{◌∙◌, ◌-◌, ◌/◌, [], ap, refl, sym}
use Rattle.vax_arch.specs.Walk.{page_of}
use Rattle.vm_shadow.specs.Layout.{entry_number}
use Rattle.vm_shadow.specs.Marks.{flags_of}
use Rattle.vm_shadow.proofs.Guarding.{maps_own, opens_else, opens_then}
use Rattle.vm_shadow.proofs.shadow.Shadow.open_write.Goals as goal

pub returns-then-modified-clause-is : goal.returns-then-modified-clause-is
returns-then-modified-clause-is g c = opens_else (g.H.Hardware.machine c.args.machine.now) (g.H.Hardware.machine c.args.machine.now) c.args.self.now c.args.self.now (page_of c.args.va) c.place-place.result _ 0 0 [] refl c.requires.fits c.requires.covered c.requires.marked c.place-place.ensures.is c.read_long.ensures.value
    (sym c.modified.ensures ∙ c.if-modified.true)

pub returns-then-modified-clause-frame : goal.returns-then-modified-clause-frame
returns-then-modified-clause-frame g c = maps_own (g.H.Hardware.machine c.args.machine.now) c.args.self.now _ (page_of c.args.va) c.place-place.result _ c.saturating_sub-frame.result c.self.view_is c.place-place.ensures.is c.read_long.ensures.value (c.saturating_sub-frame.ensures ∙ ap (λ x. x - c.self.inside.base) c.frame.ensures)

pub returns-clause-is : goal.returns-clause-is
returns-clause-is g c = opens_then (g.H.Hardware.machine c.args.machine.now) _ c.args.self.now _ (page_of c.args.va) c.place-place.result _ c.saturating_sub-frame.result c.entry_number-n.result (flags_of c.mark_way.new.ways) c.self.view_is c.requires.fits c.requires.covered c.requires.marked c.place-place.ensures.is c.read_long.ensures.value
    (sym c.modified.ensures ∙ c.if-modified.false) c.write_long.ensures (c.saturating_sub-frame.ensures ∙ ap (λ x. x - c.self.inside.base) c.frame.ensures) (c.entry_number-n.ensures.is ∙ ap (λ x. entry_number x (c.args.va / 512)) c.from.ensures) c.mark_way.ensures

pub returns-clause-frame : goal.returns-clause-frame
returns-clause-frame g c = maps_own (g.H.Hardware.machine c.args.machine.now) c.args.self.now _ (page_of c.args.va) c.place-place.result _ c.saturating_sub-frame.result c.self.view_is c.place-place.ensures.is c.read_long.ensures.value (c.saturating_sub-frame.ensures ∙ ap (λ x. x - c.self.inside.base) c.frame.ensures)
