use Rattle.std.proofs.Common.{bit_and, bit_or}
use Rattle.vv_class.proofs.Order.{united, united_is_least}
use Rattle.vv_class.proofs.class.join.Goals as goal

pub returns-clause-parts : goal.returns-clause-parts
returns-clause-parts c =
    let a = c.args.a.now in
    let b = c.args.b.now in
    united a b _ (λ i. record { secrecy = c.max.ensures i; secrecy_cats = bit_or a.secrecy_cats b.secrecy_cats; integrity = c.min.ensures i; integrity_cats = bit_and a.integrity_cats b.integrity_cats })

pub returns-clause-least : goal.returns-clause-least
returns-clause-least c = united_is_least c.args.a.now c.args.b.now _ (returns-clause-parts c)
