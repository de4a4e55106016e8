use Rattle.std.proofs.Common.{◌≡◌, vec_len}
use Rattle.vv_edge.proofs.opening.Opening.lines.Given as goal

abbrev pub invariant-loop-number : goal.invariant-loop-number
invariant-loop-number l = vec_len l.list ≡ l.number-counter
