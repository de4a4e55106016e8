use Rattle.vm_shadow.proofs.Storing.{stores_byte}
use Rattle.vm_shadow.proofs.shadow.Shadow.store_byte.Goals as goal

pub returns : goal.returns
returns g c = stores_byte c.args.pa c.args.byte (g.H.Hardware.machine c.args.machine.now) (g.H.Hardware.machine c.note_write.new.machine) _ c.args.self.now c.note_write.new.self _ c.requires.fits c.requires.inside c.note_write.ensures c.self.view_is c.write_byte.ensures
