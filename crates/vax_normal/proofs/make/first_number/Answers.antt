use Rattle.std.proofs.Common.{arith}
use Rattle.vax_normal.proofs.Relative.{first_at_hand, first_relative}
use Rattle.vax_normal.proofs.Touching.{after_first, rest_of}
use Rattle.vax_normal.proofs.make.first_number.Goals as goal

pub returns-in-Some : goal.returns-in-Some
returns-in-Some c =
    let xs = c.args.operands.now in
    let x = c.operand-item.result in
    first_at_hand c.in-Some.number x (after_first xs) xs c.args.length (rest_of xs x (omega (arith, c.in-len1-up.len_at_least)) c.operand-item.is) c.in-Some.ensures

pub returns-in-None : goal.returns-in-None
returns-in-None c =
    let xs = c.args.operands.now in
    let x = c.operand-item.result in
    first_relative c.relative_of.result x (after_first xs) xs c.args.length (rest_of xs x (omega (arith, c.in-len1-up.len_at_least)) c.operand-item.is) c.relative_of.ensures.value
