use Rattle.vax_normal.proofs.Indexing.{found_is}
use Rattle.vax_normal.proofs.rarer_shape.Indexed.find.Goals as goal

pub returns-in-None : goal.returns-in-None
returns-in-None c = found_is c.args.self.now c.args.number c.args.r.now c.args.psw c.value-first.result c.value-second.result c.alu-x.result c.value-first.ensures c.value-second.ensures c.alu-x.ensures c.in-None.is
