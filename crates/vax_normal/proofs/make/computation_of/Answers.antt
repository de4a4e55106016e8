use Rattle.vax_normal.specs.AtHand.{all_at_hand}
use Rattle.vax_normal.specs.Normal.{number_by}
use Rattle.vax_normal.proofs.Doing.{computes_done}
use Rattle.vax_normal.proofs.make.computation_of.Goals as goal

pub returns : goal.returns
returns c = λ r q psw room alike pc.
    let first = c.in_ok-first.first in
    let second = c.in_ok-first.second in
    let numbers = c.in_ok-first.ensures r q (room, alike, pc) in
    computes_done c.args.op c.args.width c.args.inputs c.args.target (number_by first r) (number_by second r) c.in_ok-target_register.field-0 c.args.length r (all_at_hand c.args.operands.now q) psw
    numbers.0 numbers.1 (c.in_ok-target_register.ensures q) pc
