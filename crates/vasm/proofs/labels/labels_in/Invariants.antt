use Rattle.std.proofs.Common.{◌+◌, ◌*◌, ◌≤◌, length}
use Rattle.vasm.proofs.ReadLines.{IsRead}
use Rattle.vasm.proofs.labels.labels_in.Given as goal

abbrev pub invariant-loop-rest : goal.invariant-loop-rest
invariant-loop-rest l = record {
  read : IsRead l.fn.text l.number l.at l.labels l.rest;
  count : l.number + length l.rest ≤ length l.fn.text + 1;
  low : l.at ≤ 448 + 64 * l.number;
}

abbrev pub decreases-loop-rest : goal.decreases-loop-rest
decreases-loop-rest l = length l.rest
