use Rattle.vm_stepping.specs.Made.{no_counts, underway}
use Rattle.vm_stepping.proofs.Advancing.{nothing_yet, then_more}
use Rattle.vm_stepping.proofs.NotingSteps.{notes_nothing, notes_then}
use Rattle.vm_stepping.proofs.PayingBegun.{all_paid, pays_nothing, pays_then}
use Rattle.vm_stepping.proofs.Running.{plain_left}
use Rattle.std.proofs.Common.{arith, subst, sym}
use Rattle.vm_stepping.specs.Advances.{Proceeds}
use Rattle.vm_stepping.proofs.turns.advance_noting.Goals as goal

pub loop-left-init : goal.loop-left-init
loop-left-init g c = (
  subst (λ x. Proceeds g.T.Port.may (plain_left c.args.steps) c.of-left.result (underway c.args.port.now (g.H.Hardware.machine c.args.machine.now) c.args.s.now c.args.g.now no_counts) (underway c.args.port.now (g.H.Hardware.machine c.args.machine.now) c.args.s.now c.args.g.now x)) (sym c.none-counts.ensures)
      (nothing_yet g.T.Port.may c.args.steps c.of-left.result c.args.port.now (g.H.Hardware.machine c.args.machine.now) c.args.s.now c.args.g.now no_counts c.requires.stands c.of-left.ensures),
  pays_nothing c.args.steps c.of-left.result (g.H.Hardware.machine c.args.machine.now) c.args.s.now c.args.g.now c.of-left.ensures,
  notes_nothing c.args.steps c.of-left.result (g.H.Hardware.machine c.args.machine.now) c.args.g.now c.args.note.now c.of-left.ensures,
)

pub loop-left-preserved : goal.loop-left-preserved
loop-left-preserved g c = (
  then_more g.T.Port.may (plain_left c.args.steps) c.loop-left.left c.proceed-left.result c.args.port.now c.loop-left.port c.proceed-left.new.port (g.H.Hardware.machine c.args.machine.now) c.args.s.now c.args.g.now no_counts
      (g.H.Hardware.machine c.loop-left.machine) c.loop-left.s c.loop-left.g c.loop-left.counts (g.H.Hardware.machine c.proceed-left.new.machine) c.proceed-left.new.s c.proceed-left.new.g c.proceed-left.new.counts c.requires.stands c.loop-left.invariant.0 c.proceed-left.ensures.proceeds,
  pays_then (plain_left c.args.steps) c.loop-left.left c.proceed-left.result (g.H.Hardware.machine c.args.machine.now) c.args.s.now c.args.g.now
      (g.H.Hardware.machine c.loop-left.machine) c.loop-left.s c.loop-left.g (g.H.Hardware.machine c.proceed-left.new.machine) c.proceed-left.new.s c.proceed-left.new.g c.loop-left.invariant.1 c.proceed-left.ensures.pays,
  notes_then (plain_left c.args.steps) c.loop-left.left c.proceed-left.result (g.H.Hardware.machine c.args.machine.now) c.args.g.now (g.H.Hardware.machine c.loop-left.machine) c.loop-left.g (g.H.Hardware.machine c.proceed-left.new.machine) c.proceed-left.new.g
      c.loop-left.note c.proceed-left.new.note (omega arith) c.loop-left.invariant.0.fewer c.loop-left.invariant.2 c.proceed-left.ensures.note,
)

pub returns-clause-pays : goal.returns-clause-pays
returns-clause-pays g c =
    all_paid c.args.steps c.loop-left.left (g.H.Hardware.machine c.args.machine.now) c.args.s.now c.args.g.now (g.H.Hardware.machine c.loop-left.machine) c.loop-left.s c.loop-left.g (omega arith) c.loop-left.invariant.0.begun c.loop-left.invariant.1
