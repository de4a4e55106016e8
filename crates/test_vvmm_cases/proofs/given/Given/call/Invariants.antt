use Rattle.std.proofs.Common.{◌≡◌, vec_len}
use Rattle.test_vvmm_cases.proofs.given.Given.call.Given as goal

abbrev pub invariant-loop-number : goal.invariant-loop-number
invariant-loop-number l = vec_len l.drives ≡ l.number
