use Rattle.std.proofs.Common.{◌≡◌, drop}
use Rattle.toml.specs.View.{items_view}
use Rattle.sys_config.specs.Guests.{mounts_from, no_mounts}
use Rattle.sys_config.proofs.mounts.mounts_from.Given as goal

abbrev pub invariant-loop-value : goal.invariant-loop-value
invariant-loop-value l = mounts_from l.volumes l.units (items_view (drop l.value-index l.values)) ≡ mounts_from l.volumes no_mounts (items_view l.values)
