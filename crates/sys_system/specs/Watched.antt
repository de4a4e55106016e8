-- What is noted of a step that is watched.
use Rattle.std.specs.Prelude.{◌≡◌}
use Rattle.sys_system.specs.declared.watching.Watched.{Watched}
use Rattle.vm_exception.specs.Noted.{note_of}
use Rattle.vm_state.specs.Run.{no_steps, tallied}
use Rattle.vm_state.specs.State.{Guest}
use Rattle.vm_state.specs.Step.{step}
use Rattle.vm_stepping.specs.Made.{tally_of}

-- the kind of a guest's next step, what is noted of it, and the bytes that it shows
pub record DescribesStep (g : Guest) (w : Watched) : Type 0 where
  pub kind : tally_of w.counts ≡ tallied (step g).kind no_steps
  pub note : w.note ≡ note_of g
  pub shown : w.shown ≡ (step g).shown
