use Rattle.std.proofs.Common.{◌≡◌, map, vec_len}
use Rattle.sys_devices.proofs.AllLoaded.{AreLoadedTo}
use Rattle.sys_devices.proofs.loading.load_volumes.Given as goal

abbrev pub invariant-loop-place : goal.invariant-loop-place
invariant-loop-place g l = record {
  drives : map (λ b. (goal.Drive-dyn g (b.vtable, b.value)).kept b.value) l.drives.items ≡ map (λ b. (goal.Drive-dyn g (b.vtable, b.value)).kept b.value) l.fn.drives.items;
  loaded : AreLoadedTo l.place l.rows (map (λ b. (goal.Drive-dyn g (b.vtable, b.value)).kept b.value) l.fn.drives.items) l.volumes;
  len : vec_len l.drives ≡ vec_len l.fn.drives;
}
