use Rattle.std.proofs.Common.{Err, ap, sym, ◌∙◌}
use Rattle.vax_hw.specs.Machine.{Machine}
use Rattle.vax_hw.specs.declared.world.Exit.{Exit}
use Rattle.vax_table.specs.Effects.{effect}
use Rattle.vax_cpu.specs.Completed.{with_registers}
use Rattle.vax_cpu.proofs.One.{attempt_retires, attempt_stops, runs_on, runs_to_stop, runs_to_trap}
use Rattle.vax_cpu.proofs.cpu.step_whole.Goals as goal

pub returns-in-Some : goal.returns-in-Some
returns-in-Some c = λ n.
    let m : Machine = with_registers c.args.plan.now.r c.args.state.now in
    let retired = rw c.in-Ok.ensures.state at c.retire.ensures in
    let done = attempt_retires c.args.state.now c.retire.new.self c.args.plan.now.r c.in-Ok.opcode (effect c.attempt_next.new.plan) c.in-Ok.ensures.attempted retired in
    runs_to_trap n c.in-Some.kind m _ (rw c.in-Some.is at done)

pub returns-in-None : goal.returns-in-None
returns-in-None c =
    let m : Machine = with_registers c.args.plan.now.r c.args.state.now in
    let retired = rw c.in-Ok.ensures.state at c.retire.ensures in
    let done = attempt_retires c.args.state.now c.retire.new.self c.args.plan.now.r c.in-Ok.opcode (effect c.attempt_next.new.plan) c.in-Ok.ensures.attempted retired in
    (c.sum_of-total.ensures, λ n. runs_on n m _ (rw c.in-None.is at done))

pub returns-in-Err : goal.returns-in-Err
returns-in-Err c = λ n.
    let m : Machine = with_registers c.args.plan.now.r c.args.state.now in
    let stops = rw c.in-Err.ensures.state at c.stop.ensures in
    let stopped = attempt_stops c.args.state.now c.args.plan.now.r _ c.in-Err.ensures.attempted ∙ ap (λ (e : Exit). Err e) (sym c.end_with.ensures) in
    rw stops (runs_to_stop n m _ stopped)
