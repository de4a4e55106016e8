use Rattle.std.proofs.Common.{◌*◌, ◌-◌}
use Rattle.vm_state.specs.Partition.{part}
use Rattle.sys_state.specs.Dump.{row_lines, text_of_lines}
use Rattle.sys_devices.proofs.OneLine.{IsButOn}
use Rattle.sys_output.proofs.dumps.put_rows.Given as goal

-- all is shown but for the rows that are left
abbrev pub invariant-loop-number : goal.invariant-loop-number
invariant-loop-number g l =
    let memory = part (g.H.Hardware.machine l.machine).memory (512 * l.g.base) (512 * l.g.pages) in
    IsButOn l.line (g.L.Lines.lines l.initial.lines) (g.L.Lines.lines l.lines) (text_of_lines (row_lines (32 * l.g.pages - l.number) (16 * l.number) memory)) (text_of_lines (row_lines (32 * l.g.pages) 0 memory))
