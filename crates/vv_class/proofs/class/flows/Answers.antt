use Rattle.vv_class.proofs.Order.{both_halves, flow_means, and_then, and_else}
use Rattle.vv_class.proofs.class.flows.Goals as goal

pub returns-then-secrecy-clause-value : goal.returns-then-secrecy-clause-value
returns-then-secrecy-clause-value c =
    both_halves c.args.a.now c.args.b.now _ _ _ c.is_within-secrecy.ensures c.is_within-integrity.ensures (and_then _ _ c.if-secrecy.true)

pub returns-then-secrecy-clause-meaning : goal.returns-then-secrecy-clause-meaning
returns-then-secrecy-clause-meaning c = flow_means c.args.a.now c.args.b.now _ (returns-then-secrecy-clause-value c)

pub returns-else-secrecy-clause-value : goal.returns-else-secrecy-clause-value
returns-else-secrecy-clause-value c =
    both_halves c.args.a.now c.args.b.now _ _ _ c.is_within-secrecy.ensures c.is_within-integrity.ensures (and_else _ _ c.if-secrecy.false)

pub returns-else-secrecy-clause-meaning : goal.returns-else-secrecy-clause-meaning
returns-else-secrecy-clause-meaning c = flow_means c.args.a.now c.args.b.now _ (returns-else-secrecy-clause-value c)
