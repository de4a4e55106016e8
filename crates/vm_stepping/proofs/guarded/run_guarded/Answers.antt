use Rattle.std.proofs.Common.{◌∙◌, ℕ, List, ap, rules, subst, sym}
use Rattle.vax_hw.specs.Machine.{Machine}
use Rattle.vm_stepping.specs.Ran.{rise}
use Rattle.vm_shadow.proofs.Covering.{slot_small}
use Rattle.vm_simulation_laws.specs.Loaded.{RunsGuest, as_run}
use Rattle.vm_exception.specs.Standing.{standing}
use Rattle.vm_stepping.specs.Guarded.{CanAllow, IsTried, RunsSome}
use Rattle.vm_stepping.proofs.Finishing.{is_guarded, runs_loaded, written_loaded}
use Rattle.vm_stepping.proofs.guarded.run_guarded.Goals as goal

pub world-requires-clause-slot : goal.world-requires-clause-slot
world-requires-clause-slot g c = slot_small (g.H.Hardware.machine c.args.machine.now).memory c.args.s.now c.requires.stands.keeps.fits

pub complete_written-exit-requires-clause-runs : goal.complete_written-exit-requires-clause-runs
complete_written-exit-requires-clause-runs g c =
    subst (λ (m : Machine). RunsSome m c.args.s.now c.args.g.now) (sym c.load_world.ensures) (runs_loaded (g.H.Hardware.machine c.args.machine.now) c.args.s.now c.args.g.now c.world.result c.requires.stands c.world.ensures)

pub complete_written-exit-requires-clause-written : goal.complete_written-exit-requires-clause-written
complete_written-exit-requires-clause-written g c =
    subst (λ (m : Machine). CanAllow c.args.va m c.args.s.now c.args.g.now) (sym c.load_world.ensures) (written_loaded c.args.va (g.H.Hardware.machine c.args.machine.now) c.world.result c.args.s.now c.args.g.now c.requires.written)

pub returns : goal.returns
returns g c =
    let m = g.H.Hardware.machine c.args.machine.now in
    let after = g.H.Hardware.machine c.complete_written-exit.new.machine in
    is_guarded m c.args.s.now c.args.g.now c.complete_written-exit.result (rise c.trail-trail.result c.trail.result) c.world.result after c.complete_written-exit.new.s c.take_back.new.g c.requires.stands c.world.ensures
    (subst (λ (x : Machine). (opened : List ℕ) → RunsGuest opened x c.args.s.now c.args.g.now → IsTried c.complete_written-exit.result opened (standing x c.args.s.now c.args.g.now) after c.complete_written-exit.new.s) c.load_world.ensures c.complete_written-exit.ensures)
    (λ i. rise (c.trail-trail.ensures i) (c.trail.ensures i)) (search rules) (c.take_back.ensures ∙ ap (λ w. as_run w c.args.g.now) c.save_world.ensures)
