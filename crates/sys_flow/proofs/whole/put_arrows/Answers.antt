use Rattle.sys_flow.specs.Picture.{arrow_of, edges_from}
use Rattle.sys_flow.proofs.Later.{later, rows_more}
use Rattle.sys_flow.proofs.whole.put_arrows.Goals as goal

pub loop-a-preserved : goal.loop-a-preserved
loop-a-preserved c =
    let part = arrow_of c.args.c.now c.args.letters c.args.spots.now in
    later _ _ _ _ _ _ c.loop-a.invariant c.in_ok-put_arrows_from.ensures (rows_more part (edges_from c.args.c.now) c.loop-a.a)
