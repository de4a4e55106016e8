use Rattle.std.proofs.Common.{◌≡◌, ◌-◌, length, take}
use Rattle.sys_snap.specs.Conditions.{any}
use Rattle.sys_snap.specs.Fronts.{after_front}
use Rattle.sys_snap.specs.Reading.{four, times}
use Rattle.sys_snap.proofs.cursor.longs.Given as goal

abbrev pub invariant-loop-i : goal.invariant-loop-i
invariant-loop-i g l = record {
  long : length l.values ≡ g.row.N;
  left : after_front (take l.i l.values) (times (g.row.N - l.i) (four any) l.r) ≡ times g.row.N (four any) l.fn.r;
}
