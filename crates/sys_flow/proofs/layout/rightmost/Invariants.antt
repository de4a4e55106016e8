use Rattle.std.proofs.Common.{◌≡◌, drop, max}
use Rattle.sys_flow.proofs.Folds.{greatest_by}
use Rattle.sys_flow.proofs.layout.rightmost.Given as goal

abbrev pub invariant-loop-s : goal.invariant-loop-s
invariant-loop-s l = max l.most (greatest_by (λ s. s.x) (drop l.s-index l.spots)) ≡ greatest_by (λ s. s.x) l.spots
