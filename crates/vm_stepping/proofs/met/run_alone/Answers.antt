use Rattle.std.proofs.Common.{subst, sym}
use Rattle.vm_stepping.specs.Guarded.{ExitIsMet}
use Rattle.vm_simulation_laws.specs.Runs.{Reaches}
use Rattle.vm_shadow.specs.StandsFor.{StandsFor}
use Rattle.vm_stepping.proofs.Meeting.{guarded_budget, guarded_other, guarded_trap, stays_by}
use Rattle.vm_stepping.proofs.Noting.{guarded_notes}
use Rattle.vm_stepping.proofs.NotingRuns.{guarded_silent, guarded_tells}
use Rattle.vm_state.specs.Step.{Idle}
use Rattle.vm_stepping.proofs.PayingAlone.{budget_pays, other_pays, trap_pays}
use Rattle.vm_stepping.proofs.met.run_alone.Goals as goal

pub returns-in-Budget-clause-is : goal.returns-in-Budget-clause-is
returns-in-Budget-clause-is g c =
    guarded_budget g.T.Port.may c.args.port.now c.args.port.now (g.H.Hardware.machine c.args.machine.now) c.args.s.now c.args.g.now c.args.counts.now c.run_guarded-ran.result.terms (g.H.Hardware.machine c.run_guarded-ran.new.machine) c.run_guarded-ran.new.s c.run_guarded-ran.new.g c.requires.stands
    c.run_guarded-ran.result.exit c.retire.new.self c.in-Budget.is c.run_guarded-ran.ensures c.retire.ensures.small c.retire.ensures.is

pub returns-in-Arithmetic-clause-is : goal.returns-in-Arithmetic-clause-is
returns-in-Arithmetic-clause-is g c =
    guarded_trap g.T.Port.may c.args.port.now c.begin.new.port (g.H.Hardware.machine c.args.machine.now) c.args.s.now c.args.g.now c.args.counts.now c.run_guarded-ran.result.terms (g.H.Hardware.machine c.run_guarded-ran.new.machine) c.run_guarded-ran.new.s c.run_guarded-ran.new.g c.requires.stands
    (g.H.Hardware.machine c.begin.new.machine) c.begin.new.s c.begin.new.g c.run_guarded-ran.result.exit c.in-Arithmetic.kind c.retire-in-Arithmetic.new.self c.in-Arithmetic.is c.run_guarded-ran.ensures c.retire-in-Arithmetic.ensures.small c.retire-in-Arithmetic.ensures.is (c.begin.ensures.makes Idle) (c.begin.ensures.shown Idle)

pub returns-in_default-clause-is : goal.returns-in_default-clause-is
returns-in_default-clause-is g c =
    guarded_other g.T.Port.may c.args.port.now c.meet_told.new.port (g.H.Hardware.machine c.args.machine.now) c.args.s.now c.args.g.now c.args.counts.now c.run_guarded-ran.result.terms (g.H.Hardware.machine c.run_guarded-ran.new.machine) c.run_guarded-ran.new.s c.run_guarded-ran.new.g c.requires.stands
    (g.H.Hardware.machine c.meet_told.new.machine) c.meet_told.new.s c.meet_told.new.g c.run_guarded-ran.result.exit c.meet_told.result c.meet_told.new.counts c.in_default.not-Budget c.in_default.not-Arithmetic c.run_guarded-ran.ensures c.meet_told.ensures.met

pub returns-in-Budget-clause-pays : goal.returns-in-Budget-clause-pays
returns-in-Budget-clause-pays g c = budget_pays (g.H.Hardware.machine c.args.machine.now) c.args.s.now c.args.g.now c.run_guarded-ran.result.terms (g.H.Hardware.machine c.run_guarded-ran.new.machine) c.run_guarded-ran.new.s c.run_guarded-ran.new.g c.requires.stands c.run_guarded-ran.result.exit c.run_guarded-ran.ensures c.in-Budget.is

pub returns-in-Arithmetic-clause-pays : goal.returns-in-Arithmetic-clause-pays
returns-in-Arithmetic-clause-pays g c =
    trap_pays (g.H.Hardware.machine c.args.machine.now) c.args.s.now c.args.g.now c.run_guarded-ran.result.terms (g.H.Hardware.machine c.run_guarded-ran.new.machine) c.run_guarded-ran.new.s c.run_guarded-ran.new.g c.requires.stands c.run_guarded-ran.result.exit c.run_guarded-ran.ensures
    (g.H.Hardware.machine c.begin.new.machine) c.begin.new.s c.begin.new.g c.in-Arithmetic.kind c.in-Arithmetic.is c.begin.ensures.makes

pub returns-in_default-clause-pays : goal.returns-in_default-clause-pays
returns-in_default-clause-pays g c =
    other_pays (g.H.Hardware.machine c.args.machine.now) c.args.s.now c.args.g.now c.run_guarded-ran.result.terms (g.H.Hardware.machine c.run_guarded-ran.new.machine) c.run_guarded-ran.new.s c.run_guarded-ran.new.g c.requires.stands c.run_guarded-ran.result.exit c.run_guarded-ran.ensures
    (g.H.Hardware.machine c.meet_told.new.machine) c.meet_told.new.s c.meet_told.new.g c.meet_told.result c.in_default.not-Budget c.in_default.not-Arithmetic c.meet_told.ensures.pays

pub meet_told-requires : goal.meet_told-requires
meet_told-requires g c =
    let before = g.H.Hardware.machine c.args.machine.now in
    let after = g.H.Hardware.machine c.run_guarded-ran.new.machine in
    let stays = stays_by before c.args.s.now c.args.g.now c.run_guarded-ran.result.terms after c.run_guarded-ran.new.s c.run_guarded-ran.new.g c.run_guarded-ran.result.exit c.in_default.not-Budget c.in_default.not-Arithmetic c.run_guarded-ran.ensures in
    record {
      stands = subst (StandsFor after.memory c.run_guarded-ran.new.s) (sym stays.guest) stays.stands;
      room = c.requires.room;
      told = subst (ExitIsMet c.run_guarded-ran.result.exit after.memory c.run_guarded-ran.new.s) (sym stays.guest) stays.tells;
      reaches = subst (Reaches c.run_guarded-ran.result.exit after.memory c.run_guarded-ran.new.s) (sym stays.guest) stays.reaches;
    }

pub returns-in_default-clause-note : goal.returns-in_default-clause-note
returns-in_default-clause-note g c =
    guarded_notes (g.H.Hardware.machine c.args.machine.now) c.args.s.now c.args.g.now c.run_guarded-ran.result.terms (g.H.Hardware.machine c.run_guarded-ran.new.machine) c.run_guarded-ran.new.s c.run_guarded-ran.new.g c.run_guarded-ran.result.exit c.meet_told.result c.meet_told.new.note c.in_default.not-Budget c.in_default.not-Arithmetic c.run_guarded-ran.ensures c.meet_told.ensures.note

pub returns-in-Budget-clause-note : goal.returns-in-Budget-clause-note
returns-in-Budget-clause-note g c = guarded_silent (g.H.Hardware.machine c.args.machine.now) c.args.s.now c.args.g.now c.run_guarded-ran.result.terms (g.H.Hardware.machine c.run_guarded-ran.new.machine) c.run_guarded-ran.new.s c.run_guarded-ran.new.g c.run_guarded-ran.result.exit c.run_guarded-ran.ensures c.in-Budget.is

pub returns-in-Arithmetic-clause-note : goal.returns-in-Arithmetic-clause-note
returns-in-Arithmetic-clause-note g c =
    guarded_tells (g.H.Hardware.machine c.args.machine.now) c.args.s.now c.args.g.now c.run_guarded-ran.result.terms (g.H.Hardware.machine c.run_guarded-ran.new.machine) c.run_guarded-ran.new.s c.run_guarded-ran.new.g c.run_guarded-ran.result.exit c.run_guarded-ran.ensures c.in-Arithmetic.kind c.begin.result c.in-Arithmetic.is c.begin.ensures.note
