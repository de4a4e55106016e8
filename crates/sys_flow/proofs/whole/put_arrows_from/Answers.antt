use Rattle.std.proofs.Common.{◌∙◌, ap, sym}
use Rattle.sys_flow.specs.Reach.{has_edge}
use Rattle.sys_flow.specs.Picture.{arrow_of, edge_to}
use Rattle.sys_flow.proofs.Later.{later, nothing_after, chosen_more, chosen_left}
use Rattle.sys_flow.proofs.whole.put_arrows_from.Goals as goal
use Rattle.sys_flow.proofs.whole.put_arrows_from.Goals.{then-edge+in_ok-put_arrow_of, else-edge}

pub loop-b-preserved : goal.loop-b-preserved
loop-b-preserved c =
    let part = arrow_of c.args.c.now c.args.letters c.args.spots.now in
    let passes = has_edge c.args.c.now c.args.a in
    elim c.if-edge.branch [
      | then-edge+in_ok-put_arrow_of w ↦ later _ _ _ _ _ _ c.loop-b.invariant (ap (λ t. t.items) w.text-is ∙ w.in_ok-put_arrow_of.ensures) (chosen_more part (edge_to c.args.a) passes c.loop-b.b (sym c.edge.ensures ∙ w.if-edge.true))
      | else-edge w ↦ nothing_after _ _ _ _ _ c.loop-b.invariant (ap (λ t. t.items) w.text-is) (chosen_left part (edge_to c.args.a) passes c.loop-b.b (sym c.edge.ensures ∙ w.if-edge.false))
    ]
