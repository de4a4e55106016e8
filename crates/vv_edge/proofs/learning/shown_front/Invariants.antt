use Rattle.std.proofs.Common.{◌≡◌, length, map, min, take}
use Rattle.vv_edge.specs.Learning.{seen_as}
use Rattle.vv_edge.proofs.learning.shown_front.Given as goal

abbrev pub invariant-loop-byte : goal.invariant-loop-byte
invariant-loop-byte l = (l.text ≡ map seen_as (take l.byte-index (take (min (length l.line) 80) l.line))) × (length l.text ≡ l.byte-index)
