use Rattle.std.proofs.Common.{◌≡◌, ◌++◌, map, take, drop}
use Rattle.sys_server.specs.Apply.{freed}
use Rattle.sys_server.proofs.granting.free.Given as goal

abbrev pub invariant-loop-t : goal.invariant-loop-t
invariant-loop-t l = l.at ≡ map (freed l.g) (take l.t l.fn.at) ++ drop l.t l.fn.at
