use Rattle.std.proofs.Common.{◌≡◌, take, drop, length}
use Rattle.vm_state.specs.Partition.{partition_of}
use Rattle.vm_guest.proofs.bytes.fetch_all.Given as goal

abbrev pub invariant-loop-k : goal.invariant-loop-k
invariant-loop-k g l = record {
  done : take l.k l.bytes ≡ take l.k (drop l.pa (partition_of (g.H.Hardware.machine l.machine).memory l.g));
  same : length l.bytes ≡ length l.fn.bytes;
}
