use Rattle.std.proofs.Common.{◌≡◌, ◌+◌, sum, take}
use Rattle.vax_hw.specs.Real.{real}
use Rattle.vax_cpu.specs.Completed.{with_registers}
use Rattle.vax_cpu.proofs.cpu.run_parts.Given as goal

abbrev pub invariant-loop-left : goal.invariant-loop-left
invariant-loop-left l = record {
  runs : real l.left (with_registers l.plan.r l.state) ≡ real l.budget (with_registers l.fn.plan.r l.fn.state);
  sum : l.total ≡ sum (take 15 l.plan.r);
}

abbrev pub decreases-loop-left : goal.decreases-loop-left
decreases-loop-left l = l.left + l.renewals
