use Rattle.sys_flow.specs.Picture.{box_of}
use Rattle.sys_flow.proofs.Later.{later, parts_more}
use Rattle.sys_flow.proofs.whole.put_boxes.Goals as goal

pub loop-a-preserved : goal.loop-a-preserved
loop-a-preserved c =
    let part = box_of c.args.c.now c.args.letters c.args.spots.now in
    later _ _ _ _ _ _ c.loop-a.invariant c.in_ok-put_box_of.ensures (parts_more part c.loop-a.a)
