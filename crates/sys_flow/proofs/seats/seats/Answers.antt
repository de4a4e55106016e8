use Rattle.std.proofs.Common.{◌∙◌}
use Rattle.sys_flow.specs.Seats.{seat_of}
use Rattle.sys_flow.proofs.Folds.{pushed}
use Rattle.sys_flow.proofs.seats.seats.Goals as goal

pub loop-a-preserved : goal.loop-a-preserved
loop-a-preserved c = c.in_ok-push.ensures.items ∙ pushed (seat_of c.args.c.now) _ _ c.loop-a.a c.loop-a.invariant c.seat_of.ensures
