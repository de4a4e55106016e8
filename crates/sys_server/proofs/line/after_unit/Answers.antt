use Rattle.std.proofs.Common.{arith}
use Rattle.std.proofs.lemmas.Grind.{common_steps}
use Rattle.sys_server.proofs.Cutting.{too_many}
use Rattle.sys_server.proofs.line.after_unit.Goals as goal

pub returns-in-Some-rest : goal.returns-in-Some-rest
returns-in-Some-rest c = grind (arith, common_steps, too_many c.args.verb.now c.args.vm.now c.args.unit.now c.cut.result.0.now c.cut-2.result.0.now c.in-Some-rest.field-0.now)
