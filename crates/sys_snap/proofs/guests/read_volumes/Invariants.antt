use Rattle.std.proofs.Common.{◌≡◌, drop, map}
use Rattle.sys_snap.specs.Fronts.{after_front}
use Rattle.sys_snap.specs.Reader.{volume_in}
use Rattle.sys_snap.specs.Reading.{each}
use Rattle.sys_snap.proofs.guests.read_volumes.Given as goal

abbrev pub invariant-loop-row : goal.invariant-loop-row
invariant-loop-row l = after_front (map (λ blocks. blocks.items) l.volumes.items) (each volume_in (drop l.row-index l.rows) l.r) ≡ each volume_in l.rows l.fn.r
