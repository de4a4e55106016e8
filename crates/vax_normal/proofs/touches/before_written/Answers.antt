use Rattle.vax_normal.proofs.Touching.{none_touched, touched_written}
use Rattle.vax_normal.proofs.touches.before_written.Goals as goal

pub returns-in-None-None : goal.returns-in-None-None
returns-in-None-None c = λ xs rest.
    touched_written c.in_ok-reach.reach c.args.base c.args.x.now xs c.requires c.in_ok-reach.ensures (none_touched c.args.rest.now xs c.in-None-None.is-0 c.in-None-None.is-1 rest)
