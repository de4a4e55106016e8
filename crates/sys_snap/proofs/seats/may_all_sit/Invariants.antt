use Rattle.std.proofs.Common.{◌≡◌, drop}
use Rattle.sys_snap.specs.Conditions.{may_all_sit}
use Rattle.sys_snap.proofs.seats.may_all_sit.Given as goal

abbrev pub invariant-loop-i : goal.invariant-loop-i
invariant-loop-i l = may_all_sit l.rows (drop l.i l.terminals) (drop l.i l.seats) ≡ may_all_sit l.rows l.terminals l.seats
