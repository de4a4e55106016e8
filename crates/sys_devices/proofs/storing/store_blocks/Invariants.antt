use Rattle.std.proofs.Common.{◌≡◌, map, vec_len}
use Rattle.sys_devices.proofs.Writing.{IsStoredTo}
use Rattle.sys_store.specs.Blocks.{blocks_of}
use Rattle.sys_devices.proofs.storing.store_blocks.Given as goal

abbrev pub invariant-loop-block : goal.invariant-loop-block
invariant-loop-block g l = record {
  stored : IsStoredTo l.block l.k (map (λ b. (goal.Drive-dyn g (b.vtable, b.value)).kept b.value) l.fn.drives.items) (map (λ b. (goal.Drive-dyn g (b.vtable, b.value)).kept b.value) l.drives.items) (blocks_of l.volumes l.v);
  len : vec_len l.drives ≡ vec_len l.fn.drives;
}
