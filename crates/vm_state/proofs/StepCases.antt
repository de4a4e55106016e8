-- A step by its cases, as proofs take them one after another.
use Rattle.std.proofs.Common.{◌≡◌, ℕ, Bool, [], Option, Some, None, refl}
use Rattle.std.specs.Prelude.{if◌then◌else◌}
use Rattle.vm_state.specs.Initiate.{initiate}
use Rattle.vm_state.specs.Interrupts.{Source, due, interrupt_of}
use Rattle.vm_state.specs.State.{Guest}
use Rattle.vm_state.specs.Step.{Idle, Stepped, Stopped, counted, executed, interrupted, step, stepped}

abbrev pub unless_waiting : Guest → Bool → Stepped
unless_waiting g waits = if waits then stepped g [] Idle [] else executed g

abbrev pub by_interrupt : Guest → Option Source → Stepped
by_interrupt g (Some source) = interrupted g source (initiate g (interrupt_of source))
by_interrupt g None = unless_waiting g g.state.waiting

abbrev pub step_by : Guest → Option ℕ → Stepped
step_by g (Some code) = stepped g [] Stopped []
step_by g None = let h : Guest = record g { state = counted g.state } in by_interrupt h (due h.state)

pub by_cases : (g : Guest) → step g ≡ step_by g g.state.halt
unfolding step
by_cases g = refl
