use Rattle.std.proofs.Common.{arith, ◌/◌, ap, ◌∙◌}
use Rattle.vax_arch.specs.Walk.{page_of}
use Rattle.vm_shadow.proofs.Covering.{present_covered}
use Rattle.vm_shadow.proofs.Filling.{fill_page}
use Rattle.vm_shadow.proofs.shadow.Shadow.fill_found.Goals as goal

pub entry_number-n-requires-clause-covered : goal.entry_number-n-requires-clause-covered
entry_number-n-requires-clause-covered g c = present_covered _ c.args.self.now c.args.g.now (page_of c.args.va) c.requires.stands.keeps.fits c.requires.stands.serves c.requires.present

pub returns-in-Some : goal.returns-in-Some
returns-in-Some g c = rw c.fill.ensures (fill_page (page_of c.args.va) c.args.g.now (g.H.Hardware.machine c.args.machine.now) (g.H.Hardware.machine c.protect.new.machine) (g.H.Hardware.machine c.write_long.new.self) c.args.self.now c.protect.new.self _ c.in-Some.entry c.in-Some.source c.args.seen c.entry_number-n.result c.entry_place.result c.real_entry.result c.set_flags.new.flags.items
    (omega (arith, c.ranges.va.fits)) c.requires.stands c.requires.present c.requires.seen c.in-Some.ensures c.protect.ensures c.self.view_is
    (c.entry_number-n.ensures.is ∙ ap (λ x. Rattle.vm_shadow.specs.Layout.entry_number x (c.args.va / 512)) c.from.ensures) c.entry_place.ensures c.real_entry.ensures c.write_long.ensures c.set_flags.ensures)
