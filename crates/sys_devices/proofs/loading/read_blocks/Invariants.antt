use Rattle.std.proofs.Common.{◌≡◌, map, vec_len}
use Rattle.sys_devices.proofs.Reading.{IsReadTo}
use Rattle.sys_devices.specs.Rows.{drive_at}
use Rattle.sys_devices.proofs.loading.read_blocks.Given as goal

abbrev pub invariant-loop-block : goal.invariant-loop-block
invariant-loop-block g l = record {
  drives : map (λ b. (goal.Drive-dyn g (b.vtable, b.value)).kept b.value) l.drives.items ≡ map (λ b. (goal.Drive-dyn g (b.vtable, b.value)).kept b.value) l.fn.drives.items;
  read : IsReadTo l.block l.fn.volumes l.volumes l.v (drive_at (map (λ b. (goal.Drive-dyn g (b.vtable, b.value)).kept b.value) l.fn.drives.items) l.k);
  len : vec_len l.drives ≡ vec_len l.fn.drives;
}
