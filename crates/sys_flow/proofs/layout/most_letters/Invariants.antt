use Rattle.std.proofs.Common.{◌≡◌, ◌≤◌, length, drop, max}
use Rattle.vv_class.specs.Text.{class_text}
use Rattle.sys_flow.proofs.Folds.{greatest_by}
use Rattle.sys_flow.proofs.layout.most_letters.Given as goal

abbrev pub invariant-loop-class : goal.invariant-loop-class
invariant-loop-class l =
    (l.most ≤ 400) × (max l.most (greatest_by (λ class. length (class_text class)) (drop l.class-index l.classes)) ≡ greatest_by (λ class. length (class_text class)) l.classes)
