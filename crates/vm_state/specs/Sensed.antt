-- How a sensitive instruction ends, and which exception a trouble is.
use Rattle.std.specs.Prelude.{ℕ, List}
use Rattle.vax_table.specs.Interaction.{At, Test, Trouble}
use Rattle.vax_table.specs.declared.act.Refusal.{Refusal}
use Rattle.vax_table.specs.declared.act.Refusal.TheVariants as refusals
use Rattle.vm_state.specs.State.{Guest, mode_of_state}
use Rattle.vm_state.specs.Stops.{Stop}
use Rattle.vm_state.specs.Translation.{walk_of}
use Rattle.vm_state.specs.declared.exception.Exc.{Exc}
use Rattle.vm_state.specs.declared.exception.Exc.TheVariants as excs
use Rattle.vm_state.specs.declared.walk.Walk.{Walk}
use Rattle.vm_state.specs.declared.walk.Walk.TheVariants as walks

-- The outcome of a sensitive instruction. It completes, shows bytes, and writes frames; or it has a fault, with which nothing of
-- it happened. Or the page of a byte that it would write has a clear modify bit. Or its initiation stops the guest, and it counts
-- as completed. Or a place that it reads or writes is beyond memory, which stops the guest.
pub data Sensed : Type 0 where
  Does : Guest → (shown written : List ℕ) → Sensed
  Faults : Exc → Sensed
  ClearAt : ℕ → Sensed
  StopsThere : Stop → Sensed
  LacksMemory : Sensed

-- the fault that a trouble is: of a byte, what the guest's walk says there
abbrev pub fault_of : Walk → Sensed
fault_of (walks.Fault f) = Faults (excs.Memory f)
fault_of walk = LacksMemory

abbrev pub refused_as : Refusal → Exc
refused_as refusals.Instruction = excs.ReservedInstruction
refused_as refusals.ReservedOperand = excs.ReservedOperand
refused_as refusals.Addressing = excs.ReservedAddressing
refused_as refusals.Customer = excs.Customer
refused_as refusals.Breakpoint = excs.Breakpoint

abbrev pub troubled : Guest → Trouble → Sensed
troubled g (At cause i va) = fault_of (walk_of g va (mode_of_state g.state) i)
troubled g (Test refusal) = Faults (refused_as refusal)
