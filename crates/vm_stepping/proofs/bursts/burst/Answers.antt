use Rattle.std.proofs.Common.{◌<◌, ◌^◌, ◌∙◌, ap, refl, subst, arith, rules}
use Rattle.std.specs.Bool.{IsTrue}
use Rattle.vax_hw.specs.Real.{real}
use Rattle.vm_stepping.specs.Ran.{Ended, RunsMachine, rise}
use Rattle.vm_stepping.proofs.Bursting.{few_counted, few_done, is_run}
use Rattle.vm_clock.specs.Ticks.{ticks_to_wrap}
use Rattle.vm_shadow.proofs.Covering.{slot_small}
use Rattle.vm_simulation_laws.specs.Bursts.{with_count}
use Rattle.vm_state.specs.declared.guest_state.GuestState.{GuestState}
use Rattle.vm_stepping.proofs.bursts.burst.Goals as goal

pub world-requires-clause-slot : goal.world-requires-clause-slot
world-requires-clause-slot g c = slot_small (g.H.Hardware.machine c.args.machine.now).memory c.args.s.now c.requires.stands.keeps.fits

pub overflow_cast-ran : goal.overflow_cast-ran
overflow_cast-ran g c =
    let m = g.H.Hardware.machine c.args.machine.now in
    let after = g.H.Hardware.machine c.run.new.self in
    let ended : Ended = record { exit = c.run.result; done = rise c.retired-retired.result c.retired.result; terms = rise m.trail after.trail; world = c.save_world.result } in
    let ran : RunsMachine c.args.budget m c.world.result ended after = record { ran = c.run.ensures ∙ ap (real c.args.budget) c.load_world.ensures; done = λ i. rise (c.retired-retired.ensures i) (c.retired.ensures i); terms = refl; world = c.save_world.ensures; retired = search rules; trail = search rules } in
    record {
      fits = few_done c.args.budget m c.args.s.now c.args.g.now c.world.result ended after c.requires.stands c.world.ensures c.requires.some (subst (λ n. n < 2 ^ 32) c.steps_of-steps.ensures.is c.steps_of-steps.ensures.small) c.ranges.budget.fits c.requires.quiet ran;
    }

pub count_more-requires : goal.count_more-requires
count_more-requires g c = λ running.
    let m = g.H.Hardware.machine c.args.machine.now in
    let after = g.H.Hardware.machine c.run.new.self in
    let ended : Ended = record { exit = c.run.result; done = rise c.retired-retired.result c.retired.result; terms = rise m.trail after.trail; world = c.save_world.result } in
    let ran : RunsMachine c.args.budget m c.world.result ended after = record { ran = c.run.ensures ∙ ap (real c.args.budget) c.load_world.ensures; done = λ i. rise (c.retired-retired.ensures i) (c.retired.ensures i); terms = refl; world = c.save_world.ensures; retired = search rules; trail = search rules } in
    let few = few_counted c.args.budget m c.args.s.now c.args.g.now c.world.result ended after c.requires.stands c.world.ensures c.requires.some (subst (λ n. n < 2 ^ 32) c.steps_of-steps.ensures.is c.steps_of-steps.ensures.small) c.ranges.budget.fits c.requires.quiet ran ended.done refl in
    let within = c.requires.within (subst (λ (x : GuestState). IsTrue x.clock.run) c.take_back.ensures running) in
    omega (arith, few, within, c.counted_by.ensures, ap (λ (x : GuestState). ticks_to_wrap x.clock) c.take_back.ensures)

pub returns : goal.returns
returns g c =
    let m = g.H.Hardware.machine c.args.machine.now in
    let after = g.H.Hardware.machine c.run.new.self in
    let ended : Ended = record { exit = c.run.result; done = rise c.retired-retired.result c.retired.result; terms = rise c.trail-trail.result c.trail.result; world = c.save_world.result } in
    let ran : RunsMachine c.args.budget m c.world.result ended after = record { ran = c.run.ensures ∙ ap (real c.args.budget) c.load_world.ensures; done = λ i. rise (c.retired-retired.ensures i) (c.retired.ensures i); terms = λ i. rise (c.trail-trail.ensures i) (c.trail.ensures i); world = c.save_world.ensures; retired = search rules; trail = search rules } in
    is_run c.args.budget m c.args.s.now c.args.g.now c.world.result ended after c.requires.stands c.world.ensures c.requires.some (subst (λ n. n < 2 ^ 32) c.steps_of-steps.ensures.is c.steps_of-steps.ensures.small) c.ranges.budget.fits c.requires.quiet ran
    ended.done c.take_back.new.g c.count_more.new.g c.save_world.result refl c.save_world.ensures c.take_back.ensures (c.count_more.ensures ∙ ap (λ n. with_count n c.take_back.new.g) c.counted_by.ensures)
