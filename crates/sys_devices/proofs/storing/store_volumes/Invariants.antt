use Rattle.std.proofs.Common.{◌≡◌, map, take, vec_len}
use Rattle.sys_devices.specs.Stores.{StoresToDrives}
use Rattle.sys_devices.proofs.storing.store_volumes.Given as goal

abbrev pub invariant-loop-place : goal.invariant-loop-place
invariant-loop-place g l = record {
  stores : StoresToDrives (take l.place l.rows) l.volumes l.fn.marks l.marks (map (λ b. (goal.Drive-dyn g (b.vtable, b.value)).kept b.value) l.fn.drives.items) (map (λ b. (goal.Drive-dyn g (b.vtable, b.value)).kept b.value) l.drives.items);
  len : vec_len l.drives ≡ vec_len l.fn.drives;
}
