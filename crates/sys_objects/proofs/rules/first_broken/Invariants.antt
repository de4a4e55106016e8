use Rattle.std.proofs.Common.{◌≡◌, [], take, drop}
use Rattle.sys_objects.specs.Rules.{first_broken}
use Rattle.sys_objects.proofs.rules.first_broken.Given as goal

abbrev pub invariant-loop-i : goal.invariant-loop-i
invariant-loop-i g l = first_broken (g.R.Rule.holds l.rule) (take l.i l.rows) (drop l.i l.rows) ≡ first_broken (g.R.Rule.holds l.rule) [] l.rows
