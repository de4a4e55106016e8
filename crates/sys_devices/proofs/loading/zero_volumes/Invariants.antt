use Rattle.std.proofs.Common.{◌≡◌, map, take}
use Rattle.sys_devices.proofs.loading.zero_volumes.Given as goal

abbrev pub invariant-loop-row : goal.invariant-loop-row
invariant-loop-row l = l.sizes.items ≡ map (λ row. row.blocks) (take l.row-index l.rows)
