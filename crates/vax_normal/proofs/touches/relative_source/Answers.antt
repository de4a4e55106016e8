use Rattle.std.proofs.Common.{arith, sym, ◌∙◌}
use Rattle.vax_normal.proofs.Relative.{relative_had}
use Rattle.vax_normal.proofs.Touching.{after_first, rest_of}
use Rattle.vax_normal.proofs.touches.relative_source.Goals as goal

pub returns : goal.returns
returns c = λ t v u at r q before.
    let xs = c.args.operands.now in
    let x = c.x-item.result in
    let by = c.in_ok-number.ensures in
    relative_had c.in_ok-number.number x (after_first xs) xs c.args.length (rest_of xs x (omega (arith, c.in-len1-up.len_at_least)) c.x-item.is) by.hand by.pc (sym c.if-not-is_kept_over_all.ensures) by.value t v u at r q before
    ∙ sym (c.at_hand.ensures.value v u r)
