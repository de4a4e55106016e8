use Rattle.std.proofs.Common.{◌≡◌, map, vec_len}
use Rattle.sys_devices.proofs.Synced.{AreSynced}
use Rattle.sys_devices.specs.Syncing.{IsStillDrive}
use Rattle.vv_io.specs.Blocks.{unkept}
use Rattle.sys_devices.proofs.syncing.sync_drives.Given as goal

abbrev pub invariant-loop-k : goal.invariant-loop-k
invariant-loop-k g l = record {
  synced : AreSynced unkept (λ v. v.faults) IsStillDrive l.k (map (λ b. (goal.Drive-dyn g (b.vtable, b.value)).kept b.value) l.fn.drives.items) (map (λ b. (goal.Drive-dyn g (b.vtable, b.value)).kept b.value) l.drives.items) l.failed;
  len : vec_len l.drives ≡ vec_len l.fn.drives;
}
