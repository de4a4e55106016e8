use Rattle.std.proofs.Common.{◌≡◌, true, List, ap, sym, ◌∙◌, subst}
use Rattle.vax_table.specs.Spelling.{view}
use Rattle.vax_operand.specs.declared.prepared.Operand.{Operand}
use Rattle.vax_normal.specs.AtHand.{IsDoneBy, are_at_hand}
use Rattle.vax_normal.specs.declared.shape.Normal.{Normal}
use Rattle.vax_normal.proofs.Taking.{is_normal}
use Rattle.vax_normal.proofs.make.normal_of.Goals as goal

pub returns : goal.returns
returns c =
    let p = c.args.prepared.now in
    let n : Normal = record { shape = c.in_ok-shape.shape; length = c.from-length.result } in
    let at_hand : are_at_hand p.operands.items ≡ true = ap are_at_hand (sym c.as_slice-operands.ensures.value) ∙ sym c.if-not-are_at_hand.ensures in
    let does : IsDoneBy n.shape n.length p.operation p.operands.items =
    subst (λ (xs : List Operand). IsDoneBy n.shape n.length p.operation xs) c.as_slice-operands.ensures.value c.in_ok-shape.ensures in
    is_normal n (view p.decoded) p.operation p.operands.items p.does p.forms p.specs at_hand c.requires c.from-length.ensures does
