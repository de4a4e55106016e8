use Rattle.std.proofs.Common.{◌∙◌, refl}
use Rattle.vv_gen.proofs.Making.{block_made}
use Rattle.vv_gen.proofs.volumes.drawn_block.Goals as goal

pub returns-clause-block : goal.returns-clause-block
returns-clause-block c = c.fill.ensures.block ∙ block_made c.args.draws.now.state _ refl
