use Rattle.std.proofs.Common.{◌∙◌, ◌*◌, ap, sym, arith}
use Rattle.vax_arch.specs.declared.mode.Intent.TheVariants.{Read}
use Rattle.vm_emulate.proofs.GuestBytes.{faulty_long, found_inside, found_long, offset_kept, past_long}
use Rattle.vm_state.specs.Partition.{guest_of}
use Rattle.vm_state.specs.Translation.{walk_of}
use Rattle.vm_state.proofs.Parts.{part_length}
use Rattle.vm_emulate.proofs.reading.read_in_page.Goals as goal

pub long_in-requires-clause-inside : goal.long_in-requires-clause-inside
long_in-requires-clause-inside g c =
    let memory = (g.H.Hardware.machine c.args.machine.now).memory in
    let h = guest_of memory c.args.g.now in
    let e = sym c.in-Frame.is ∙ c.walk.ensures ∙ ap (λ m. walk_of h c.args.va m Read) c.current.ensures in
    let i = found_inside h c.args.va c.in-Frame.pa c.in-Frame.entry c.in-Frame.table c.requires.tables e in
    let o = offset_kept h c.args.va c.in-Frame.pa c.in-Frame.entry c.in-Frame.table e in
    omega (arith, i, o, c.requires.page, part_length memory (512 * c.args.g.now.base) (512 * c.args.g.now.pages) (omega (arith, c.requires.partition)))

pub returns-in-Frame : goal.returns-in-Frame
returns-in-Frame g c =
    let h = guest_of (g.H.Hardware.machine c.args.machine.now).memory c.args.g.now in
    found_long h c.args.va c.in-Frame.pa c.long_in.result c.in-Frame.entry c.in-Frame.table c.ranges.va.fits c.requires.page (sym c.in-Frame.is ∙ c.walk.ensures ∙ ap (λ m. walk_of h c.args.va m Read) c.current.ensures) c.long_in.ensures

pub returns-in-Fault : goal.returns-in-Fault
returns-in-Fault g c =
    let h = guest_of (g.H.Hardware.machine c.args.machine.now).memory c.args.g.now in
    faulty_long h c.args.va c.in-Fault.fault c.ranges.va.fits (sym c.in-Fault.is ∙ c.walk.ensures ∙ ap (λ m. walk_of h c.args.va m Read) c.current.ensures)

pub returns-in-Beyond : goal.returns-in-Beyond
returns-in-Beyond g c =
    let h = guest_of (g.H.Hardware.machine c.args.machine.now).memory c.args.g.now in
    past_long h c.args.va c.ranges.va.fits (sym c.in-Beyond.is ∙ c.walk.ensures ∙ ap (λ m. walk_of h c.args.va m Read) c.current.ensures)
