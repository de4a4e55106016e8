use Rattle.std.proofs.Common.{arith}
use Rattle.vax_hw.specs.Machine.{machine_tables}
use Rattle.vax_cpu.proofs.state.State.new.Goals as goal

pub invariant_of-result : goal.invariant_of-result
invariant_of-result c = (omega (arith, c.in_ok-vec.ensures.len), c.requires.some, c.requires.most, c.in_ok-nothing.ensures c.in_ok-vec.field-0.items (machine_tables c.no_world.result))
