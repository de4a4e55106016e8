use Rattle.vax_normal.proofs.Sources.{hand_sourced}
use Rattle.vax_normal.proofs.touches.at_hand.Goals as goal

pub returns-clause-value : goal.returns-clause-value
returns-clause-value c = λ v u r. hand_sourced c.args.number v u r
