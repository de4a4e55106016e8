use Rattle.std.proofs.Common.{sym, arith}
use Rattle.vax_normal.proofs.Touching.{after_first, rest_of}
use Rattle.vax_normal.proofs.Indexing.{some_first, some_hand}
use Rattle.vax_normal.proofs.indexed.+indexed_among.Goals as goal

pub returns-then-is_at_hand : goal.returns-then-is_at_hand
returns-then-is_at_hand t c =
    let xs = c.args.operands.now in
    let x = c.x-item.result in
    some_hand c.indexed_among.result x (after_first xs) xs (rest_of xs x (omega (arith, c.in-len1-up.len_at_least)) c.x-item.is) (sym c.if-is_at_hand.ensures) c.indexed_among.ensures

pub returns-in-None-None : goal.returns-in-None-None
returns-in-None-None t c =
    let xs = c.args.operands.now in
    let x = c.x-item.result in
    some_first c.indexed_by.result c.in_ok-after.after x (after_first xs) xs (rest_of xs x (omega (arith, c.in-len1-up.len_at_least)) c.x-item.is) c.in-None-None.is-0 c.in-None-None.is-1 c.in_ok-after.ensures c.indexed_by.ensures
