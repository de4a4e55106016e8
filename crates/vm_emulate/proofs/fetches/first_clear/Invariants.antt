use Rattle.vm_emulate.proofs.Fetching.{Searching}
use Rattle.vm_emulate.proofs.fetches.first_clear.Given as goal
use Rattle.vm_state.specs.Partition.{guest_of}
use Rattle.vm_state.specs.Translation.{is_clear}

abbrev pub invariant-loop-va : goal.invariant-loop-va
invariant-loop-va g l = Searching (is_clear (guest_of (g.H.Hardware.machine l.machine).memory l.g)) l.addresses l.va-index
