use Rattle.std.proofs.Common.{◌∙◌, sym}
use Rattle.vax_arch.specs.declared.mode.Intent.TheVariants.{Write}
use Rattle.vm_exception.proofs.Pages.{beside}
use Rattle.vm_state.specs.Partition.{guest_of}
use Rattle.vm_exception.proofs.pushes.walk_beside.Goals as goal

pub returns-in-Frame : goal.returns-in-Frame
returns-in-Frame g c = beside (guest_of (g.H.Hardware.machine c.args.machine.now).memory c.args.g.now) c.args.va c.args.other c.args.m Write c.in-Frame.pa c.in-Frame.entry c.in-Frame.table c.if-va-other.true (sym c.in-Frame.is ∙ c.requires.walked)
