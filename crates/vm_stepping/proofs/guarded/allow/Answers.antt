use Rattle.vm_stepping.proofs.Guards.{is_opened}
use Rattle.vm_stepping.proofs.guarded.allow.Goals as goal

pub returns : goal.returns
returns g c =
    is_opened c.args.va (g.H.Hardware.machine c.args.machine.now) c.args.s.now c.grant_write.result (g.H.Hardware.machine c.grant_write.new.machine) (g.H.Hardware.machine c.open_write.new.machine) c.grant_write.new.self c.open_write.new.self c.open_write.result c.if-grant_write.false c.grant_write.ensures.is c.open_write.ensures.frame c.open_write.ensures.is
