use Rattle.std.proofs.Common.{◌∙◌, ap, arith, sym}
use Rattle.vm_state.specs.Partition.{guest_of}
use Rattle.vm_state.specs.Step.{by_try, faulted}
use Rattle.vm_stepping.proofs.PayingMet.{made_settles}
use Rattle.vm_stepping.proofs.met.refuse.Goals as goal

pub returns-clause-pays : goal.returns-clause-pays
returns-clause-pays g c = made_settles 0 c.requires.stands (ap (by_try (guest_of (g.H.Hardware.machine c.args.machine.now).memory c.args.g.now)) c.requires.refused ∙ ap (faulted (guest_of (g.H.Hardware.machine c.args.machine.now).memory c.args.g.now)) (sym c.refused_as.ensures.is)) c.requires.filled (omega arith) c.fault.ensures.made
