use Rattle.std.proofs.Common.{◌∙◌, ◌-◌, ◌/◌, ap, sym}
use Rattle.vax_arch.specs.Walk.{page_of}
use Rattle.vm_shadow.specs.Shadowed.{is_flagged}
use Rattle.vm_shadow.specs.Layout.{entry_number}
use Rattle.vm_shadow.specs.Marks.{flags_of}
use Rattle.vm_shadow.proofs.Guarding.{grants_then}
use Rattle.vm_shadow.proofs.shadow.Shadow.grant_write.Goals as goal

pub returns-then-not-modified-clause-is : goal.returns-then-not-modified-clause-is
returns-then-not-modified-clause-is g c = grants_then (g.H.Hardware.machine c.args.machine.now) _ c.args.self.now _ (page_of c.args.va) c.place-place.result _ c.saturating_sub-frame.result c.entry_number-n.result (flags_of c.mark_way.new.ways) c.self.view_is c.requires.fits c.requires.covered c.requires.marked c.place-place.ensures.is c.read_long.ensures.value
    (sym c.modified.ensures ∙ c.if-not-modified.true) (ap (is_flagged c.saturating_sub-frame.result) (sym c.deref.ensures.value) ∙ sym c.is_flagged.ensures ∙ c.if-is_flagged.false) c.write_long.ensures (c.saturating_sub-frame.ensures ∙ ap (λ x. x - c.self.inside.base) c.frame.ensures) (c.entry_number-n.ensures.is ∙ ap (λ x. entry_number x (c.args.va / 512)) c.from.ensures) c.mark_way.ensures
