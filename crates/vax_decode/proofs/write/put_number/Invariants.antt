use Rattle.std.proofs.Common.{◌≡◌, ◌+◌, ◌++◌, length}
use Rattle.vax_table.specs.Spelling.{bytes_of}
use Rattle.vax_decode.proofs.write.put_number.Given as goal

abbrev pub invariant-loop-left : goal.invariant-loop-left
invariant-loop-left l = record {
  text : l.text ++ bytes_of l._left l.rest ≡ l.fn.text ++ bytes_of l.size l.value;
  room : length l.text + l._left ≡ length l.fn.text + l.size;
}
