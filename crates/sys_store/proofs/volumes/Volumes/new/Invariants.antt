use Rattle.std.proofs.Common.{◌≡◌, map, take}
use Rattle.sys_store.specs.Blocks.{zero_volume}
use Rattle.sys_store.proofs.volumes.Volumes.new.Given as goal

abbrev pub invariant-loop-size : goal.invariant-loop-size
invariant-loop-size l = map (λ blocks. blocks.items) l.volumes.items ≡ map zero_volume (take l.size-index l.sizes)
