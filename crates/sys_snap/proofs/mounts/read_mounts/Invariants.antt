use Rattle.std.proofs.Common.{replicate, None}
use Rattle.sys_snap.specs.Reader.{units_in}
use Rattle.sys_snap.proofs.Fills.{Fills}
use Rattle.sys_snap.proofs.mounts.read_mounts.Given as goal

abbrev pub invariant-loop-i : goal.invariant-loop-i
invariant-loop-i l = Fills (units_in l.volumes) l.rows 16 (replicate 4 None) l.i l.mounts l.fn.r l.r
