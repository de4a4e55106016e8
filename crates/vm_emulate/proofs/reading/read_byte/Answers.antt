use Rattle.std.proofs.Common.{◌∙◌, ◌*◌, ap, sym, arith}
use Rattle.vax_arch.specs.declared.mode.Intent.TheVariants.{Read}
use Rattle.vm_emulate.proofs.GuestBytes.{faulty_byte, found_inside}
use Rattle.vm_state.specs.Partition.{guest_of}
use Rattle.vm_state.specs.Translation.{walk_of}
use Rattle.vm_state.proofs.Parts.{part_length}
use Rattle.vm_emulate.proofs.reading.read_byte.Goals as goal

pub byte_in-requires-clause-inside : goal.byte_in-requires-clause-inside
byte_in-requires-clause-inside g c =
    let memory = (g.H.Hardware.machine c.args.machine.now).memory in
    let h = guest_of memory c.args.g.now in
    let i = found_inside h c.args.va c.in-Frame.pa c.in-Frame.entry c.in-Frame.table c.requires.tables (sym c.in-Frame.is ∙ c.walk.ensures ∙ ap (λ m. walk_of h c.args.va m Read) c.current.ensures) in
    omega (arith, i, part_length memory (512 * c.args.g.now.base) (512 * c.args.g.now.pages) (omega (arith, c.requires.partition)))

pub returns-in-Fault : goal.returns-in-Fault
returns-in-Fault g c =
    let h = guest_of (g.H.Hardware.machine c.args.machine.now).memory c.args.g.now in
    faulty_byte h c.args.va c.in-Fault.fault (sym c.in-Fault.is ∙ c.walk.ensures ∙ ap (λ m. walk_of h c.args.va m Read) c.current.ensures)
