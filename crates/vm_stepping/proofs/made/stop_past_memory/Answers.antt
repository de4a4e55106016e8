use Rattle.vm_stepping.proofs.Making.{made_past}
use Rattle.vm_stepping.proofs.made.stop_past_memory.Goals as goal

pub returns-clause-made : goal.returns-clause-made
returns-clause-made g c = made_past g.T.Port.may c.args.port.now c.show_stop.new.port (g.H.Hardware.machine c.args.machine.now) c.args.s.now c.args.g.now c.args.counts.now c.requires.stands c.show_stop.ensures
