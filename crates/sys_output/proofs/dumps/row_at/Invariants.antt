use Rattle.std.proofs.Common.{◌≡◌, ◌*◌, drop, take}
use Rattle.vv_base.specs.Bytes.{overwritten}
use Rattle.sys_output.proofs.dumps.row_at.Given as goal

-- the longwords so far are read
abbrev pub invariant-loop-number : goal.invariant-loop-number
invariant-loop-number g l = l.row ≡ overwritten l.initial.row 0 (take (4 * l.number) (take 16 (drop l.at (g.H.Hardware.machine l.machine).memory)))
