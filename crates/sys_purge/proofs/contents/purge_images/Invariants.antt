use Rattle.std.proofs.Common.{◌≡◌, map, take}
use Rattle.sys_purge.specs.Input.{beside, is_kept}
use Rattle.sys_purge.proofs.contents.purge_images.Given as goal

abbrev pub invariant-loop-k : goal.invariant-loop-k
invariant-loop-k l = map (λ image. image.items) l.kept.items ≡ beside (is_kept l.to) (take l.k l.guests) (take l.k (map (λ image. image.items) l.images))
