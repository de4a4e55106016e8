use Rattle.vm_emulate.proofs.Fetching.{is_fetched}
use Rattle.vm_emulate.proofs.fetches.read_register.Goals as goal

pub returns-in-Ok-clause-is : goal.returns-in-Ok-clause-is
returns-in-Ok-clause-is c = is_fetched c.args.g.now c.mfpr.new.g c.set_codes.new.g c.args.t.now c.registers_after-g.result c.mfpr.result c.in-Ok.v c.registers_after-g.ensures.registers c.in-Ok.is c.mfpr.ensures.reads c.set_codes.ensures.state
