use Rattle.vm_emulate.proofs.Writing.{is_written}
use Rattle.vm_emulate.proofs.moves.write_register.Goals as goal

pub returns-in-Ok-clause-is : goal.returns-in-Ok-clause-is
returns-in-Ok-clause-is c = is_written c.args.g.now c.mtpr.new.g c.set_codes.new.g c.args.t.now c.registers_after-g.result c.mtpr.result c.in-Ok.effect c.registers_after-g.ensures.registers c.in-Ok.is c.mtpr.ensures.writes c.set_codes.ensures.state
