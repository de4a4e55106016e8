use Rattle.std.proofs.Common.{◌≡◌, ℕ, ◌+◌, ◌*◌, ◌<◌, get_or, length}
use Rattle.vm_state.specs.Contexts.{control_block_long}
use Rattle.vm_state.specs.Partition.{guest_of}
use Rattle.vm_emulate.proofs.loads.longs_in_block.Given as goal

abbrev pub invariant-loop-k : goal.invariant-loop-k
invariant-loop-k g l = record {
  size : length l.longs ≡ g.row.N;
  at : l.at ≡ l.offset + 4 * l.k;
  read : (j : ℕ) → j < l.k → get_or l.longs j 0 ≡ control_block_long (guest_of (g.H.Hardware.machine l.machine).memory l.g) (l.offset + 4 * j);
}
