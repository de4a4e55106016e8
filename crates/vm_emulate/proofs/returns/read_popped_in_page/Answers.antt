use Rattle.std.proofs.Common.{◌∙◌, ◌*◌, ap, sym, arith}
use Rattle.vax_arch.specs.declared.mode.Intent.TheVariants.{Read}
use Rattle.vm_emulate.proofs.GuestBytes.{found_inside, offset_kept}
use Rattle.vm_emulate.proofs.Popping.{popped_faulty, popped_found, popped_past}
use Rattle.vm_state.specs.Partition.{guest_of}
use Rattle.vm_state.specs.Translation.{walk_of}
use Rattle.vm_state.proofs.Parts.{part_length}
use Rattle.vm_emulate.proofs.returns.read_popped_in_page.Goals as goal

pub overflow_add-pa : goal.overflow_add-pa
overflow_add-pa g c =
    let memory = (g.H.Hardware.machine c.args.machine.now).memory in
    let h = guest_of memory c.args.g.now in
    let i = found_inside h c.args.sp c.in-Frame.pa c.in-Frame.entry c.in-Frame.table c.requires.tables (sym c.in-Frame.is ∙ c.walk.ensures ∙ ap (λ m. walk_of h c.args.sp m Read) c.current.ensures) in
    record { fits = omega (arith, i, c.requires.partition, c.pages-all.ensures.all, c.pages-all.ensures.few, part_length memory (512 * c.args.g.now.base) (512 * c.args.g.now.pages) (omega (arith, c.requires.partition))) }

pub long_in-pc-requires-clause-inside : goal.long_in-pc-requires-clause-inside
long_in-pc-requires-clause-inside g c =
    let memory = (g.H.Hardware.machine c.args.machine.now).memory in
    let h = guest_of memory c.args.g.now in
    let e = sym c.in-Frame.is ∙ c.walk.ensures ∙ ap (λ m. walk_of h c.args.sp m Read) c.current.ensures in
    let i = found_inside h c.args.sp c.in-Frame.pa c.in-Frame.entry c.in-Frame.table c.requires.tables e in
    let o = offset_kept h c.args.sp c.in-Frame.pa c.in-Frame.entry c.in-Frame.table e in
    omega (arith, i, o, c.requires.page, part_length memory (512 * c.args.g.now.base) (512 * c.args.g.now.pages) (omega (arith, c.requires.partition)))

pub long_in-psl-requires-clause-inside : goal.long_in-psl-requires-clause-inside
long_in-psl-requires-clause-inside g c =
    let memory = (g.H.Hardware.machine c.args.machine.now).memory in
    let h = guest_of memory c.args.g.now in
    let e = sym c.in-Frame.is ∙ c.walk.ensures ∙ ap (λ m. walk_of h c.args.sp m Read) c.current.ensures in
    let i = found_inside h c.args.sp c.in-Frame.pa c.in-Frame.entry c.in-Frame.table c.requires.tables e in
    let o = offset_kept h c.args.sp c.in-Frame.pa c.in-Frame.entry c.in-Frame.table e in
    omega (arith, i, o, c.requires.page, part_length memory (512 * c.args.g.now.base) (512 * c.args.g.now.pages) (omega (arith, c.requires.partition)))

pub returns-in-Frame : goal.returns-in-Frame
returns-in-Frame g c =
    let memory = (g.H.Hardware.machine c.args.machine.now).memory in
    let h = guest_of memory c.args.g.now in
    popped_found h c.args.sp c.ranges.sp.fits c.in-Frame.pa c.long_in-pc.result c.long_in-psl.result c.in-Frame.entry c.in-Frame.table c.requires.page (sym c.in-Frame.is ∙ c.walk.ensures ∙ ap (λ m. walk_of h c.args.sp m Read) c.current.ensures) c.long_in-pc.ensures c.long_in-psl.ensures

pub returns-in-Fault : goal.returns-in-Fault
returns-in-Fault g c =
    let memory = (g.H.Hardware.machine c.args.machine.now).memory in
    let h = guest_of memory c.args.g.now in
    popped_faulty h c.args.sp c.ranges.sp.fits c.in-Fault.fault (sym c.in-Fault.is ∙ c.walk.ensures ∙ ap (λ m. walk_of h c.args.sp m Read) c.current.ensures)

pub returns-in-Beyond : goal.returns-in-Beyond
returns-in-Beyond g c =
    let memory = (g.H.Hardware.machine c.args.machine.now).memory in
    let h = guest_of memory c.args.g.now in
    popped_past h c.args.sp c.ranges.sp.fits (sym c.in-Beyond.is ∙ c.walk.ensures ∙ ap (λ m. walk_of h c.args.sp m Read) c.current.ensures)
