use Rattle.std.proofs.Common.{drop}
use Rattle.sys_state.specs.Dump.{register_lines, text_of_lines}
use Rattle.sys_devices.proofs.OneLine.{IsButOn}
use Rattle.sys_output.proofs.dumps.put_registers.Given as goal

-- all is shown but for the registers that are left
abbrev pub invariant-loop-number : goal.invariant-loop-number
invariant-loop-number g l =
    IsButOn l.line (g.L.Lines.lines l.initial.lines) (g.L.Lines.lines l.lines) (text_of_lines (register_lines l.number (drop l.number l.r))) (text_of_lines (register_lines 0 l.r))
