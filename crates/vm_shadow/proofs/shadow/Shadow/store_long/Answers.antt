use Rattle.vm_shadow.proofs.Storing.{stores_long}
use Rattle.vm_shadow.proofs.shadow.Shadow.store_long.Goals as goal

pub returns : goal.returns
returns g c = stores_long c.args.pa c.args.long (g.H.Hardware.machine c.args.machine.now) (g.H.Hardware.machine c.note_write.new.machine) _ c.args.self.now c.note_write.new.self _ c.requires.fits c.requires.aligned c.requires.inside c.ranges.long.fits c.note_write.ensures c.self.view_is c.write_long.ensures
