use Rattle.std.proofs.Common.{◌≡◌, ◌++◌, map, take, drop}
use Rattle.sys_purge.specs.Purge.{mount_place}
use Rattle.sys_purge.proofs.purge.mount_places.Given as goal

abbrev pub invariant-loop-mount : goal.invariant-loop-mount
invariant-loop-mount l = l.mount-items ≡ map (mount_place l.to l.volumes) (take l.mount-index l.fn.mounts) ++ drop l.mount-index l.fn.mounts
