use Rattle.std.proofs.Common.{◌≡◌, length, map, take}
use Rattle.sys_audit_check.proofs.replay.mounts_of.Given as goal

abbrev pub invariant-loop-place : goal.invariant-loop-place
invariant-loop-place l = (take l.place l.mounts ≡ map (λ row. row.mounts) (take l.place l.rows)) × (length l.mounts ≡ 16)
