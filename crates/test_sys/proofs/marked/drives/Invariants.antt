use Rattle.std.proofs.Common.{◌≡◌, vec_len}
use Rattle.test_sys.proofs.marked.drives.Given as goal

abbrev pub invariant-loop-number : goal.invariant-loop-number
invariant-loop-number g l = vec_len l.drives ≡ l._number
