use Rattle.std.proofs.Common.{◌∙◌, arith}
use Rattle.vv_gen.specs.Draws.{draw}
use Rattle.vv_gen.proofs.Making.{volumes_made}
use Rattle.vv_gen.proofs.volumes.drawn_volumes.Goals as goal

pub returns-clause-volumes : goal.returns-clause-volumes
returns-clause-volumes c = c.loop.invariant.made ∙ volumes_made (draw c.args.draws.now.state) c.loop.counter (omega arith)
