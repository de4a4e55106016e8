use Rattle.std.proofs.Common.{refl}
use Rattle.vax_hw.specs.Machine.{Machine}
use Rattle.vax_table.specs.Effects.{effect}
use Rattle.vax_cpu.specs.Completed.{with_registers}
use Rattle.vax_cpu.proofs.One.{attempt_retires, runs_on}
use Rattle.vax_cpu.proofs.cpu.step_known.Goals as goal

pub returns : goal.returns
returns c =
    let m : Machine = with_registers c.args.plan.now.r c.args.state.now in
    let known = c.if-not-attempt_known.ensures in
    let done = attempt_retires c.args.state.now c.retire.new.self c.args.plan.now.r c.args.kept.now.prepared.decoded.opcode (effect c.attempt_known.new.plan) (known.attempted refl) c.retire.ensures in
    (c.sum_after-total.ensures, λ n. runs_on n m _ (rw (known.untrapped refl) at done))
