use Rattle.std.proofs.Common.{◌≡◌, vec_len}
use Rattle.test_vvmm_watched.proofs.noting.lines.Given as goal

abbrev pub invariant-loop-number : goal.invariant-loop-number
invariant-loop-number l = vec_len l.list ≡ l.number
