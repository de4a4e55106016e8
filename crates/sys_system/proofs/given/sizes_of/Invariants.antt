use Rattle.std.proofs.Common.{◌≡◌, map, take}
use Rattle.sys_system.proofs.given.sizes_of.Given as goal

abbrev pub invariant-loop-row : goal.invariant-loop-row
invariant-loop-row l = l.sizes.items ≡ map (λ row. row.blocks) (take l.row-index l.rows)
