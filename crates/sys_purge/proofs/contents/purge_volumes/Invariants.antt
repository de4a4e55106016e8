use Rattle.std.proofs.Common.{◌≡◌, map, take}
use Rattle.sys_purge.specs.Input.{beside, is_kept_volume}
use Rattle.sys_purge.proofs.contents.purge_volumes.Given as goal

abbrev pub invariant-loop-k : goal.invariant-loop-k
invariant-loop-k l = map (λ blocks. blocks.items) l.kept.items ≡ beside (is_kept_volume l.to) (take l.k l.rows) (take l.k (map (λ blocks. blocks.items) l.volumes))
