use Rattle.sys_devices.proofs.Synced.{AreSynced}
use Rattle.sys_devices.specs.Syncing.{IsStillLine}
use Rattle.vv_io.specs.Lines.{unseen}
use Rattle.sys_devices.proofs.syncing.sync_lines.Given as goal

abbrev pub invariant-loop-k : goal.invariant-loop-k
invariant-loop-k g l = AreSynced unseen (λ v. v.faults) IsStillLine l.k (g.L.Lines.lines l.fn.lines) (g.L.Lines.lines l.lines) l.failed
