-- What the code keeps of a guest before a step.
use Rattle.std.specs.Prelude.{◌≡◌}
use Rattle.sys_trace.specs.TraceLine.{instruction_spelled}
use Rattle.sys_trace.specs.declared.before.Before.{Before}
use Rattle.vm_state.specs.State.{Guest}

pub record IsBefore (g : Guest) (b : Before) : Type 0 where
  pub r : b.r ≡ g.state.r
  pub psl : b.psl.0 ≡ g.state.psl
  pub text : b.text ≡ instruction_spelled g
