use Rattle.vm_stepping.proofs.Making.{made_marked}
use Rattle.vm_stepping.proofs.made.meet_clear.Goals as goal

pub returns-clause-made : goal.returns-clause-made
returns-clause-made g c = made_marked g.T.Port.may c.args.port.now (g.H.Hardware.machine c.args.machine.now) c.args.s.now c.args.g.now c.args.counts.now (g.H.Hardware.machine c.mark_modified.new.machine) c.mark_modified.new.self c.args.va c.requires.stands c.if-g.false c.mark_modified.ensures
