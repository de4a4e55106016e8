use Rattle.std.proofs.Common.{◌≡◌}
use Rattle.sys_system.proofs.Seating.{seated}
use Rattle.sys_system.proofs.consoles.connections.Given as goal

abbrev pub invariant-loop-terminal : goal.invariant-loop-terminal
invariant-loop-terminal l = l.at ≡ seated l.rows l.terminal
