-- What is asked of the machine in rounds that were made from a moment on, besides what devices get.
use Rattle.std.specs.Prelude.{ℕ, ◌≤◌, List}
use Rattle.vax_hw.specs.Machine.{Machine}
use Rattle.sys_state.specs.FirstTouches.{first_touches_from}
use Rattle.sys_state.specs.Run.{Moment}
use Rattle.sys_script.specs.declared.event.Event.{Event}
use Rattle.vm_simulation_laws.specs.Paid.{Misses}

abbrev pub Besides : Type 1
Besides = Moment → List Event → ℕ → (machine machine' : Machine) → Type 0

-- nothing
abbrev pub NothingMore : Besides
NothingMore m es n machine machine' = Unit {0}

-- it missed at most as many pages as these rounds have first touches
pub record MissesArePaid (m : Moment) (es : List Event) (n : ℕ) (machine machine' : Machine) : Type 0 where
  pub missed : ℕ
  pub misses : Misses missed machine machine'
  pub touches : missed ≤ first_touches_from m es n
