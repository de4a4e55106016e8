use Rattle.std.proofs.Common.{◌≡◌, length}
use Rattle.sys_flow.proofs.Paths.{IsThrough}
use Rattle.sys_flow.specs.Relation.{reads}
use Rattle.sys_flow.proofs.closing.reach.Given as goal

abbrev pub invariant-loop-k : goal.invariant-loop-k
invariant-loop-k l = (length l.rows.items ≡ l.objects) × IsThrough l.c l.k (reads l.rows.items)
