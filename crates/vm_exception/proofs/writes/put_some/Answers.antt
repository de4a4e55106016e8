use Rattle.std.proofs.Common.{None}
use Rattle.vm_exception.specs.declared.pushes.Home.{Home}
use Rattle.vm_exception.proofs.Marking.{put_first, put_long}
use Rattle.vm_exception.proofs.writes.put_some.Goals as goal

pub returns-then-are_longword-clause-puts : goal.returns-then-are_longword-clause-puts
returns-then-are_longword-clause-puts g c =
    let e : Home = record { place = 0; entry = None; value = 0 } in
    let are = c.are_longword.ensures c.if-are_longword.true in
    let bytes = c.long_of-long.ensures in
    put_long c.args.homes.now e c.long_of-long.result (g.H.Hardware.machine c.args.machine.now) (g.H.Hardware.machine c.store_long.new.machine) c.args.s.now c.store_long.new.self c.in-len4-up.len_at_least c.requires.keeps.fits.small c.requires.homes are.1 are.2 are.3 bytes.0 bytes.1 bytes.2 bytes.3 c.store_long.ensures

pub returns-clause-puts : goal.returns-clause-puts
returns-clause-puts g c = put_first c.args.homes.now (record { place = 0; entry = None; value = 0 }) (g.H.Hardware.machine c.args.machine.now) (g.H.Hardware.machine c.store_byte.new.machine) c.args.s.now c.store_byte.new.self c.requires.any c.store_byte.ensures
