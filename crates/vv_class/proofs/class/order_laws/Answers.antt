use Rattle.vv_class.proofs.Order.{flow_antisymmetric, flow_is}
use Rattle.vv_class.proofs.class.order_laws.Goals as goal

pub returns-clause-antisymmetric : goal.returns-clause-antisymmetric
returns-clause-antisymmetric c = flow_antisymmetric

pub returns-clause-tested : goal.returns-clause-tested
returns-clause-tested c = flow_is
