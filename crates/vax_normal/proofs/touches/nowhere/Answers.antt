use Rattle.vax_normal.proofs.Sources.{nowhere_put}
use Rattle.vax_normal.proofs.touches.nowhere.Goals as goal

pub returns-in-None : goal.returns-in-None
returns-in-None c = λ r. nowhere_put c.args.writes.now r c.in-None.is
