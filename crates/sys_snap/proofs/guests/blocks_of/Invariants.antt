use Rattle.std.proofs.Common.{◌≡◌, ◌*◌, ◌++◌, length}
use Rattle.sys_snap.specs.Reader.{cut_blocks}
use Rattle.sys_snap.proofs.guests.blocks_of.Given as goal

abbrev pub invariant-loop-left : goal.invariant-loop-left
invariant-loop-left l = record {
  long : length l.rest ≡ 512 * l._left;
  cut : l.all.items ++ cut_blocks l._left l.rest ≡ cut_blocks l.count l.bytes;
}
