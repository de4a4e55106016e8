use Rattle.std.proofs.Common.{◌≡◌, ◌++◌, map, take}
use Rattle.sys_objects.proofs.rules.push_objects.Given as goal

abbrev pub invariant-loop-row : goal.invariant-loop-row
invariant-loop-row g l = l.objects.items ≡ l.fn.objects.items ++ map g.N.Named.object_of (take l.row-index l.rows)
