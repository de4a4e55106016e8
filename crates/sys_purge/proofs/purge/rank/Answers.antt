use Rattle.vv_class.specs.Class.{does_flow}
use Rattle.sys_purge.proofs.Steps.{rank_is}
use Rattle.sys_purge.proofs.purge.rank.Goals as goal

pub returns : goal.returns
returns g c =
    rank_is (λ row. does_flow (g.R.Row.class_of row) c.args.to.now) c.args.rows.now c.args.place _ _ _ c.count.ensures.value c.min-before.ensures c.from.ensures
