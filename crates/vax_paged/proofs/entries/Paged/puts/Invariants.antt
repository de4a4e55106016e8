use Rattle.std.proofs.Common.{◌≡◌, ◌*◌, ◌≤◌, ◌++◌, drop}
use Rattle.arrayvec.specs.ArrayVec.{array_vec_len}
use Rattle.vax_paged.specs.Puts.{puts_of}
use Rattle.vax_paged.specs.Paged.{written_place}
use Rattle.vax_paged.proofs.entries.Paged.puts.Given as goal

abbrev pub invariant-loop-store : goal.invariant-loop-store
invariant-loop-store l = record {
  items : l.puts.items ++ puts_of (written_place l.self.memory.now l.self.world.now) (drop l.store-index l.stores) ≡ puts_of (written_place l.self.memory.now l.self.world.now) l.stores;
  room : array_vec_len l.puts ≤ 8 * l.store-index;
}
