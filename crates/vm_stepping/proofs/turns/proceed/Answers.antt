use Rattle.vm_stepping.proofs.PayingBegun.{same_left}
use Rattle.vm_stepping.proofs.turns.proceed.Goals as goal

pub returns-then-left-clause-pays : goal.returns-then-left-clause-pays
returns-then-left-clause-pays g c = same_left c.args.left _ (g.H.Hardware.machine c.args.machine.now) c.args.s.now c.args.g.now (g.H.Hardware.machine c.run_on.new.machine) c.run_on.new.s c.run_on.new.g c.if-left.true c.run_on.ensures.pays

pub returns-else-left-clause-pays : goal.returns-else-left-clause-pays
returns-else-left-clause-pays g c = same_left c.args.left _ (g.H.Hardware.machine c.args.machine.now) c.args.s.now c.args.g.now (g.H.Hardware.machine c.begin_step.new.machine) c.begin_step.new.s c.begin_step.new.g c.if-left.false c.begin_step.ensures.pays
