use Rattle.std.proofs.Common.{◌≡◌}
use Rattle.vax_arch.specs.declared.mode.Intent.TheVariants.{Write}
use Rattle.vm_exception.proofs.Pushing.{Walking}
use Rattle.vm_exception.proofs.pushes.walk_bytes.Given as goal
use Rattle.vm_state.specs.Partition.{guest_of}
use Rattle.vm_state.specs.Translation.{walk_of}

abbrev pub invariant-loop-byte : goal.invariant-loop-byte
invariant-loop-byte g l = Walking (guest_of (g.H.Hardware.machine l.machine).memory l.g) l.m l.bytes l.byte-index l.homes.items × (l.last ≡ walk_of (guest_of (g.H.Hardware.machine l.machine).memory l.g) l.at l.m Write)
