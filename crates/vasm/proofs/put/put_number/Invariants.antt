use Rattle.std.proofs.Common.{◌≡◌, ◌++◌}
use Rattle.vax_table.specs.Spelling.{bytes_of}
use Rattle.vasm.proofs.put.put_number.Given as goal

abbrev pub invariant-loop-left : goal.invariant-loop-left
invariant-loop-left l = l.bytes.items ++ bytes_of l._left l.rest ≡ l.fn.bytes.items ++ bytes_of l.size l.value
