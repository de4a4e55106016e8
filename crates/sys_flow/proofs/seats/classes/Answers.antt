use Rattle.std.proofs.Common.{◌∙◌, arith}
use Rattle.sys_flow.specs.Seats.{object_class_at}
use Rattle.sys_flow.proofs.Folds.{pushed, as_many}
use Rattle.sys_flow.proofs.seats.classes.Goals as goal

pub loop-a-preserved : goal.loop-a-preserved
loop-a-preserved c = c.in_ok-push.ensures.items ∙ pushed (object_class_at c.args.c.now) _ _ c.loop-a.a c.loop-a.invariant c.class_of.ensures

pub returns-clause-few : goal.returns-clause-few
returns-clause-few c = omega (arith, as_many (object_class_at c.args.c.now) c.loop-a.classes.items c.loop-a.a c.loop-a.invariant, c.count-a-end.ensures.few)
