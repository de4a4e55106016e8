use Rattle.std.specs.Prelude.{replicate}
use Rattle.std.proofs.Common.{◌≡◌, ◌++◌}
use Rattle.vasm.proofs.listing.put_blanks.Given as goal

abbrev pub invariant-loop-left : goal.invariant-loop-left
invariant-loop-left l = l.shown.items ++ replicate l._left 32 ≡ l.fn.shown.items ++ replicate l.count 32
