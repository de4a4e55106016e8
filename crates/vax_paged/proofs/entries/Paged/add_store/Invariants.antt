use Rattle.std.proofs.Common.{◌≡◌, ◌+◌, ◌≤◌, ◌++◌}
use Rattle.arrayvec.specs.ArrayVec.{array_vec_len}
use Rattle.vv_base.specs.Width.{size_of}
use Rattle.vax_paged.specs.Puts.{puts_from}
use Rattle.vax_paged.specs.Paged.{written_place}
use Rattle.vax_paged.proofs.entries.Paged.add_store.Given as goal

abbrev pub invariant-loop-left : goal.invariant-loop-left
invariant-loop-left l = record {
  items : l.puts.items ++ puts_from (written_place l.self.memory.now l.self.world.now) l._left l.va l.rest ≡ l.fn.puts.items ++ puts_from (written_place l.self.memory.now l.self.world.now) (size_of l.store.width) l.store.va l.store.value;
  room : array_vec_len l.puts + l._left ≤ array_vec_len l.fn.puts + 8;
}
