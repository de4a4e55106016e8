use Rattle.std.proofs.Common.{◌≡◌, ◌+◌, ◌++◌, length, replicate}
use Rattle.sys_snap.proofs.record.add_zeros.Given as goal

abbrev pub invariant-loop-left : goal.invariant-loop-left
invariant-loop-left l = (l.text ++ replicate l._left 0 ≡ l.fn.text ++ replicate l.count 0) × (length l.text + l._left ≡ length l.fn.text + l.count)
