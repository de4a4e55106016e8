-- Whether a guest runs or has stopped, after any steps.
use Rattle.std.specs.Prelude.{ℕ}
use Rattle.vm_state.specs.Run.{Run, after_steps}
use Rattle.vm_state.specs.Stops.{IsHalt}

-- one that runs, or has stopped with a stop code, does so after any steps
abbrev pub StopsWithCodes : Type 0
StopsWithCodes = (n : ℕ) (run : Run) → IsHalt run.guest.state.halt → IsHalt (after_steps n run).guest.state.halt
