use Rattle.std.proofs.Common.{◌-◌, true, refl}
use Rattle.vm_state.specs.Step.{Idle}
use Rattle.vm_state.specs.State.{state_of}
use Rattle.vm_stepping.proofs.Beginning.{quiet_on}
use Rattle.vm_stepping.proofs.Running.{trap_falls_so, with_budget, with_fills, with_step, with_trap_after}
use Rattle.vm_stepping.proofs.NotingRuns.{notes_budget, notes_fills, notes_step, notes_trap}
use Rattle.vm_stepping.proofs.PayingRuns.{pays_budget, pays_fills, pays_step, pays_trap}
use Rattle.vm_stepping.proofs.turns.run_on.Goals as goal

pub burst-ran-requires-clause-quiet : goal.burst-ran-requires-clause-quiet
burst-ran-requires-clause-quiet g c = quiet_on c.budget.result (state_of c.args.g.now) c.requires.quiet c.budget.ensures.within

pub returns-in-Budget-clause-proceeds : goal.returns-in-Budget-clause-proceeds
returns-in-Budget-clause-proceeds g c =
    with_budget c.args.left c.budget.result (g.H.Hardware.machine c.args.machine.now) c.args.s.now c.args.g.now c.args.counts.now c.retire.new.self c.burst-ran.result (g.H.Hardware.machine c.burst-ran.new.machine) c.burst-ran.new.g c.requires.stands c.budget.ensures.some c.budget.ensures.most c.retire.ensures.small c.burst-ran.ensures c.retire.ensures.is
    c.of.result g.T.Port.may c.args.port.now c.args.port.now c.in-Budget.is c.of.ensures

pub returns-in-Arithmetic-clause-proceeds : goal.returns-in-Arithmetic-clause-proceeds
returns-in-Arithmetic-clause-proceeds g c =
    with_trap_after c.args.left c.budget.result (g.H.Hardware.machine c.args.machine.now) c.args.s.now c.args.g.now c.args.counts.now c.retire.new.self c.burst-ran.result (g.H.Hardware.machine c.burst-ran.new.machine) c.burst-ran.new.g c.requires.stands c.budget.ensures.some c.budget.ensures.most c.retire.ensures.small c.burst-ran.ensures c.retire.ensures.is
    c.of-in-Arithmetic.result g.T.Port.may c.args.port.now c.begin.new.port (g.H.Hardware.machine c.begin.new.machine) c.begin.new.s c.begin.new.g c.in-Arithmetic.kind c.in-Arithmetic.is c.of-in-Arithmetic.ensures (c.begin.ensures.makes Idle) (c.begin.ensures.shown Idle)

pub returns-in-Arithmetic-clause-falls : goal.returns-in-Arithmetic-clause-falls
returns-in-Arithmetic-clause-falls g c =
    trap_falls_so c.args.left c.budget.result (g.H.Hardware.machine c.args.machine.now) c.args.s.now c.args.g.now c.args.counts.now c.retire.new.self c.burst-ran.result (g.H.Hardware.machine c.burst-ran.new.machine) c.burst-ran.new.g c.requires.stands c.budget.ensures.some c.budget.ensures.most c.retire.ensures.small c.burst-ran.ensures c.retire.ensures.is
    c.of-in-Arithmetic.result g.T.Port.may c.args.port.now c.begin.new.port (g.H.Hardware.machine c.begin.new.machine) c.begin.new.s c.begin.new.g c.in-Arithmetic.kind c.in-Arithmetic.is c.of-in-Arithmetic.ensures

pub returns-then-meet : goal.returns-then-meet
returns-then-meet g c =
    let both = with_step c.args.left c.budget.result (g.H.Hardware.machine c.args.machine.now) c.args.s.now c.args.g.now c.args.counts.now c.retire.new.self c.burst-ran.result (g.H.Hardware.machine c.burst-ran.new.machine) c.burst-ran.new.g c.requires.stands c.budget.ensures.some c.budget.ensures.most c.retire.ensures.small c.burst-ran.ensures c.retire.ensures.is
    c.of-then-meet.result g.T.Port.may c.args.port.now c.meet.new.port (g.H.Hardware.machine c.meet.new.machine) c.meet.new.s c.meet.new.g c.meet.new.counts c.in_default.not-Budget c.in_default.not-Arithmetic c.meet.result c.if-meet.true c.of-then-meet.ensures c.meet.ensures.is in
    record {
      proceeds = both.0;
      pays = pays_step c.args.left c.budget.result (g.H.Hardware.machine c.args.machine.now) c.args.s.now c.args.g.now c.burst-ran.result (g.H.Hardware.machine c.burst-ran.new.machine) c.burst-ran.new.g c.budget.ensures.some c.budget.ensures.most c.burst-ran.ensures c.of-then-meet.result (g.H.Hardware.machine c.meet.new.machine) c.meet.new.s c.meet.new.g
          g.T.Port.may c.args.port.now c.meet.new.port c.retire.new.self c.meet.new.counts c.in_default.not-Budget c.in_default.not-Arithmetic c.meet.result c.meet.ensures.is c.meet.ensures.pays c.if-meet.true c.of-then-meet.ensures;
      falls = both.1;
      note = notes_step c.args.left c.budget.result (g.H.Hardware.machine c.args.machine.now) c.args.s.now c.args.g.now c.burst-ran.result (g.H.Hardware.machine c.burst-ran.new.machine) c.burst-ran.new.g c.budget.ensures.some c.budget.ensures.most c.burst-ran.ensures c.of-then-meet.result
          (g.H.Hardware.machine c.meet.new.machine) c.meet.new.s c.meet.new.g c.meet.new.note c.in_default.not-Budget c.in_default.not-Arithmetic c.meet.result c.meet.ensures.note c.if-meet.true c.of-then-meet.ensures;
    }

pub returns-else-meet : goal.returns-else-meet
returns-else-meet g c =
    let both = with_fills c.args.left c.budget.result (g.H.Hardware.machine c.args.machine.now) c.args.s.now c.args.g.now c.args.counts.now c.retire.new.self c.burst-ran.result (g.H.Hardware.machine c.burst-ran.new.machine) c.burst-ran.new.g c.requires.stands c.budget.ensures.some c.budget.ensures.most c.retire.ensures.small c.burst-ran.ensures c.retire.ensures.is
    (record { steps = c.args.left - c.burst-ran.result.done; counted = true }) g.T.Port.may c.args.port.now c.meet.new.port (g.H.Hardware.machine c.meet.new.machine) c.meet.new.s c.meet.new.g c.meet.new.counts c.in_default.not-Budget c.in_default.not-Arithmetic c.meet.result c.if-meet.false refl (quiet_on c.budget.result (state_of c.args.g.now) c.requires.quiet c.budget.ensures.within) c.meet.ensures.is in
    record {
      proceeds = both.0;
      pays = pays_fills c.args.left c.budget.result (g.H.Hardware.machine c.args.machine.now) c.args.s.now c.args.g.now c.burst-ran.result (g.H.Hardware.machine c.burst-ran.new.machine) c.burst-ran.new.g c.budget.ensures.some c.budget.ensures.most c.burst-ran.ensures (record { steps = c.args.left - c.burst-ran.result.done; counted = true }) (g.H.Hardware.machine c.meet.new.machine) c.meet.new.s c.meet.new.g
          g.T.Port.may c.args.port.now c.meet.new.port c.retire.new.self c.meet.new.counts c.in_default.not-Budget c.in_default.not-Arithmetic c.meet.result c.meet.ensures.is c.meet.ensures.pays c.if-meet.false refl;
      falls = both.1;
      note = notes_fills c.args.left c.budget.result (g.H.Hardware.machine c.args.machine.now) c.args.s.now c.args.g.now c.burst-ran.result (g.H.Hardware.machine c.burst-ran.new.machine) c.burst-ran.new.g c.budget.ensures.some c.budget.ensures.most c.burst-ran.ensures (record { steps = c.args.left - c.burst-ran.result.done; counted = true })
          (g.H.Hardware.machine c.meet.new.machine) c.meet.new.s c.meet.new.g c.meet.new.note c.in_default.not-Budget c.in_default.not-Arithmetic c.meet.result c.meet.ensures.note g.T.Port.may c.args.port.now c.meet.new.port c.retire.new.self c.meet.new.counts c.if-meet.false refl c.meet.ensures.is;
    }

pub returns-in-Budget-clause-pays : goal.returns-in-Budget-clause-pays
returns-in-Budget-clause-pays g c = pays_budget c.args.left c.budget.result (g.H.Hardware.machine c.args.machine.now) c.args.s.now c.args.g.now c.burst-ran.result (g.H.Hardware.machine c.burst-ran.new.machine) c.burst-ran.new.g c.budget.ensures.some c.budget.ensures.most c.burst-ran.ensures c.of.result c.in-Budget.is c.of.ensures

pub returns-in-Arithmetic-clause-pays : goal.returns-in-Arithmetic-clause-pays
returns-in-Arithmetic-clause-pays g c =
    pays_trap c.args.left c.budget.result (g.H.Hardware.machine c.args.machine.now) c.args.s.now c.args.g.now c.burst-ran.result (g.H.Hardware.machine c.burst-ran.new.machine) c.burst-ran.new.g c.budget.ensures.some c.budget.ensures.most c.burst-ran.ensures c.of-in-Arithmetic.result (g.H.Hardware.machine c.begin.new.machine) c.begin.new.s c.begin.new.g
    c.in-Arithmetic.kind c.in-Arithmetic.is c.of-in-Arithmetic.ensures c.begin.ensures.makes

pub returns-in-Budget-clause-note : goal.returns-in-Budget-clause-note
returns-in-Budget-clause-note g c = notes_budget c.args.left c.budget.result (g.H.Hardware.machine c.args.machine.now) c.args.s.now c.args.g.now c.burst-ran.result (g.H.Hardware.machine c.burst-ran.new.machine) c.burst-ran.new.g c.budget.ensures.some c.budget.ensures.most c.burst-ran.ensures c.of.result _ c.in-Budget.is c.of.ensures refl

pub returns-in-Arithmetic-clause-note : goal.returns-in-Arithmetic-clause-note
returns-in-Arithmetic-clause-note g c =
    notes_trap c.args.left c.budget.result (g.H.Hardware.machine c.args.machine.now) c.args.s.now c.args.g.now c.burst-ran.result (g.H.Hardware.machine c.burst-ran.new.machine) c.burst-ran.new.g c.budget.ensures.some c.budget.ensures.most c.burst-ran.ensures c.of-in-Arithmetic.result (g.H.Hardware.machine c.begin.new.machine) c.begin.new.s c.begin.new.g c.begin.result c.in-Arithmetic.kind c.in-Arithmetic.is c.of-in-Arithmetic.ensures c.begin.ensures.note
