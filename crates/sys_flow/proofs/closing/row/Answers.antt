use Rattle.std.proofs.Common.{inl, inr, sym, ◌∙◌, arith}
use Rattle.std.proofs.lemmas.Bool.{cases_lt}
use Rattle.sys_flow.specs.Reach.{has_edge}
use Rattle.sys_flow.proofs.Paths.{no_edge_to}
use Rattle.sys_flow.proofs.Rows.{filled_set, filled_left}
use Rattle.sys_flow.proofs.closing.row.Goals as goal
use Rattle.sys_flow.proofs.closing.row.Goals.{then-edge, else-edge}

pub loop-b-preserved : goal.loop-b-preserved
loop-b-preserved c =
    let f = has_edge c.args.c.now c.args.a in
    elim c.if-edge.branch [
      | then-edge w ↦ rw (w.row-is, w.from.ensures) (filled_set f c.loop-b.b c.loop-b.row (omega arith) c.loop-b.invariant (sym c.edge.ensures ∙ w.if-edge.true))
      | else-edge w ↦ rw w.row-is (filled_left f c.loop-b.b c.loop-b.row c.loop-b.invariant (sym c.edge.ensures ∙ w.if-edge.false))
    ]

pub returns : goal.returns
returns c = λ b. elim (cases_lt b c.loop-b.b) [
  | inl l ↦ c.loop-b.invariant.below b l
  | inr l ↦ c.loop-b.invariant.above b l ∙ sym (no_edge_to c.args.c.now c.args.a b (omega arith))
]
