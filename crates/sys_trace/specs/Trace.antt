-- The trace of a guest that steps alone on its private virtual VAX: a line for each step.
use Rattle.std.specs.Prelude.{ℕ, zero, suc, ◌+◌, List, [], ◌++◌}
use Rattle.sys_trace.specs.TraceLine.{trace_line}
use Rattle.vm_state.specs.State.{Guest}
use Rattle.vm_state.specs.Step.{step}

-- n steps, the first of which has this number
abbrev pub trace_from : ℕ → ℕ → Guest → List ℕ
trace_from number zero g = []
trace_from number (suc n) g = trace_line number g (step g) ++ trace_from (number + 1) n (step g).guest

unfoldable pub trace_of : ℕ → Guest → List ℕ
trace_of n g = trace_from 1 n g
