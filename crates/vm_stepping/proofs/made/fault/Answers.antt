use Rattle.vm_stepping.proofs.Making.{made_fault}
use Rattle.vm_stepping.proofs.made.fault.Goals as goal

pub returns-clause-made : goal.returns-clause-made
returns-clause-made g c =
    made_fault g.T.Port.may c.args.port.now c.begin.new.port (g.H.Hardware.machine c.args.machine.now) c.args.s.now c.args.g.now c.args.counts.now (g.H.Hardware.machine c.begin.new.machine) c.begin.new.s c.begin.new.g c.args.e c.begin.ensures.makes c.begin.ensures.shown
