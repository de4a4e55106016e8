use Rattle.vm_exception.proofs.Marking.{push_both}
use Rattle.vm_exception.specs.Pushed.{home_of}
use Rattle.std.proofs.Common.{map}
use Rattle.vm_exception.proofs.writes.push.Goals as goal

pub returns : goal.returns
returns g c = push_both (map home_of c.args.homes.now) (g.H.Hardware.machine c.args.machine.now) (g.H.Hardware.machine c.mark_homes.new.machine) (g.H.Hardware.machine c.put_homes.new.machine) c.args.s.now c.mark_homes.new.s c.put_homes.new.s c.mark_homes.ensures c.put_homes.ensures
