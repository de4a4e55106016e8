use Rattle.std.proofs.Common.{◌≡◌, take}
use Rattle.toml.specs.View.{array_view}
use Rattle.sys_config.specs.Written.{mount_items}
use Rattle.sys_config.proofs.write.mount_values.Given as goal

abbrev pub invariant-loop-unit : goal.invariant-loop-unit
invariant-loop-unit l = array_view l.values ≡ mount_items l.volumes 0 (take l.unit l.mounts)
