use Rattle.std.proofs.Common.{◌∙◌, ap, sym}
use Rattle.vax_arch.specs.declared.mode.Intent.TheVariants.{Write}
use Rattle.vm_emulate.proofs.Fetching.{faulty_place, found_place}
use Rattle.vm_state.specs.Partition.{guest_of}
use Rattle.vm_state.specs.Translation.{walk_of}
use Rattle.vm_emulate.proofs.fetches.place_of.Goals as goal

pub returns-in-Frame : goal.returns-in-Frame
returns-in-Frame g c =
    let h = guest_of (g.H.Hardware.machine c.args.machine.now).memory c.args.g.now in
    found_place h c.args.va c.in-Frame.pa c.in-Frame.entry c.in-Frame.table c.requires.tables (sym c.in-Frame.is ∙ c.walk.ensures ∙ ap (λ m. walk_of h c.args.va m Write) c.current.ensures)

pub returns-in-Fault : goal.returns-in-Fault
returns-in-Fault g c =
    let h = guest_of (g.H.Hardware.machine c.args.machine.now).memory c.args.g.now in
    faulty_place h c.args.va c.in-Fault.fault (sym c.in-Fault.is ∙ c.walk.ensures ∙ ap (λ m. walk_of h c.args.va m Write) c.current.ensures)
