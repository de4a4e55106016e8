use Rattle.std.proofs.Common.{◌≡◌, vec_len}
use Rattle.vvmm.proofs.run.Given as goal

abbrev pub invariant-loop-number : goal.invariant-loop-number
invariant-loop-number l = vec_len l.drives ≡ l.number
