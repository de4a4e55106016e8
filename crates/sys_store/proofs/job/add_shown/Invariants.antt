use Rattle.std.proofs.Common.{◌≡◌, ◌++◌, map, take}
use Rattle.sys_store.specs.Job.{shown}
use Rattle.sys_store.proofs.job.add_shown.Given as goal

abbrev pub invariant-loop-b : goal.invariant-loop-b
invariant-loop-b l = l.text ≡ l.initial.text ++ map shown (take l.b-index l.bytes)
