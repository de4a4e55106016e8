use Rattle.std.proofs.Common.{◌≡◌, ◌*◌, ◌≤◌, ◌^◌, sum, take}
use Rattle.vax_normal.proofs.total.sum_of.Given as goal

abbrev pub invariant-loop-register : goal.invariant-loop-register
invariant-loop-register l = record {
  is : l.total ≡ sum (take l.register-index (take 15 l.r));
  small : l.total ≤ l.register-index * 2 ^ 32;
}
