use Rattle.vm_exception.specs.Sources.{source_of}
use Rattle.vm_stepping.proofs.Making.{made_interrupt}
use Rattle.vm_stepping.proofs.made.take_interrupt.Goals as goal

pub returns-clause-made : goal.returns-clause-made
returns-clause-made g c =
    made_interrupt g.T.Port.may c.args.port.now c.interrupt.new.port (g.H.Hardware.machine c.args.machine.now) c.args.s.now c.args.g.now c.args.counts.now (g.H.Hardware.machine c.interrupt.new.machine) c.interrupt.new.s c.interrupt.new.g (source_of c.args.source) c.interrupt.ensures.makes c.interrupt.ensures.shown
