-- What is read of a guest, by the walks of its bytes in the guest's mode.
use Rattle.std.specs.Prelude.{◌≡◌, ℕ, Result, Ok, Err}
use Rattle.vax_arch.specs.declared.mode.Intent.TheVariants.{Read}
use Rattle.vax_table.specs.Interaction.{Cause, Trouble}
use Rattle.vm_emulate.specs.declared.reading.Unread.{Unread}
use Rattle.vm_emulate.specs.declared.returns.Popped.{Popped}
use Rattle.vm_emulate.specs.declared.reading.Unread.TheVariants.{Faulty, PastMemory}
use Rattle.vm_state.specs.Contexts as contexts
use Rattle.vm_state.specs.Sensed.{Faults, LacksMemory, Sensed, fault_of, troubled}
use Rattle.vm_state.specs.State.{Guest, mode_of_state}
use Rattle.vm_state.specs.Translation.{space_of, walk_of}
use Rattle.vm_state.specs.declared.exception.Exc.TheVariants.{Memory}

-- what a reason is to an instruction
abbrev pub unread : Unread → Sensed
unread (Faulty f) = Faults (Memory f)
unread PastMemory = LacksMemory

-- the byte at an address, or the trouble that it has
abbrev pub IsByte : Guest → (va : ℕ) → Result ℕ Unread → Type 0
IsByte g va (Ok b) = space_of g Read va ≡ Ok b
IsByte g va (Err u) = ((cause : Cause) × (space_of g Read va ≡ Err cause)) × (fault_of (walk_of g va (mode_of_state g.state) Read) ≡ unread u)

-- the number, or the trouble of the first of its bytes that has one
abbrev pub AnswersReading : Guest → Result ℕ Trouble → Result ℕ Unread → Type 0
AnswersReading g (Ok v) (Ok w) = w ≡ v
AnswersReading g (Err trouble) (Err u) = troubled g trouble ≡ unread u
AnswersReading g _ _ = ⊥

-- a PC and a PSL, or the first trouble
abbrev pub popped_of : Popped → contexts.Popped
popped_of p = record { pc = p.pc; psl = p.psl }

abbrev pub ArePopped : Guest → Result contexts.Popped Trouble → Result Popped Unread → Type 0
ArePopped g (Ok p) (Ok q) = popped_of q ≡ p
ArePopped g (Err trouble) (Err u) = troubled g trouble ≡ unread u
ArePopped g _ _ = ⊥
