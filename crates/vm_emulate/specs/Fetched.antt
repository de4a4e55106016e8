-- MFPR: where the bytes of its destination are, and what reading its register leaves.
use Rattle.std.specs.Prelude.{◌≡◌, ℕ, ◌*◌, ◌/◌, ◌%◌, ◌<◌, List, [], ◌∷◌, length, map, slice_set, All, None, Result, Ok, Err}
use Rattle.vax_arch.specs.declared.mode.Intent.TheVariants.{Write}
use Rattle.vax_table.specs.Claims.{addresses}
use Rattle.vax_table.specs.Interaction.{Cause, Trouble, number_at}
use Rattle.vax_table.specs.declared.act.Dest.{Dest}
use Rattle.vax_table.specs.declared.act.Dest.TheVariants.{Memory, Nowhere, Register}
use Rattle.vax_table.specs.declared.act.Trapped.{Trapped}
use Rattle.vm_emulate.specs.Readings.{unread}
use Rattle.vm_emulate.specs.declared.reading.Unread.{Unread}
use Rattle.vm_state.specs.Pushes.{Home}
use Rattle.vm_state.specs.Registers.{read}
use Rattle.vm_state.specs.Sensed.{fault_of, troubled}
use Rattle.vm_state.specs.Sensitive.{past_instruction, with_codes}
use Rattle.vm_state.specs.State.{Guest, State, mode_of_state, state_of}
use Rattle.vm_state.specs.Translation.{guest_write_place, space_of, walk_of}
use Rattle.vm_state.specs.declared.guest_state.GuestState.{GuestState}
use Rattle.vm_state.specs.declared.register.ReservedOperand.{ReservedOperand}

-- the place of a byte that is to be written, or the trouble that it has
abbrev pub IsPlace : Guest → (va : ℕ) → Result ℕ Unread → Type 0
IsPlace g va (Ok pa) = ((b : ℕ) × (space_of g Write va ≡ Ok b)) × (pa ≡ guest_write_place g va) × (pa < length g.memory)
IsPlace g va (Err u) = ((cause : Cause) × (space_of g Write va ≡ Err cause)) × (fault_of (walk_of g va (mode_of_state g.state) Write) ≡ unread u)

-- the places of k bytes, or the trouble of the first that has one
abbrev pub ArePlaces : Guest → (k at : ℕ) → Result (List ℕ) Unread → Type 0
ArePlaces g k at (Ok places) = ((n : ℕ) × (number_at (space_of g) Write k at ≡ Ok n)) × (places ≡ map (guest_write_place g) (addresses k at)) × All (λ pa. pa < length g.memory) places
ArePlaces g k at (Err u) = (trouble : Trouble) × (number_at (space_of g) Write k at ≡ Err trouble) × (troubled g trouble ≡ unread u)

-- the bytes of a number at their places, the lowest first
abbrev pub bytes_placed : List ℕ → (v : ℕ) → List Home
bytes_placed [] v = []
bytes_placed (pa ∷ places) v = record { place = pa; entry = None; value = v % 256 } ∷ bytes_placed places (v / 256)

-- the register is read and the codes are set; a refused read leaves the guest as it was
abbrev pub MovesFromRegister : GuestState → Trapped → Result ℕ ReservedOperand → GuestState → Type 0
MovesFromRegister g t (Ok v) g' = (u : State) × (read (512 * g.pages) (past_instruction (state_of g) t) t.a ≡ Ok (record { value = v; state = u })) × (state_of g' ≡ with_codes v u)
MovesFromRegister g t (Err refused) g' = (read (512 * g.pages) (past_instruction (state_of g) t) t.a ≡ Err refused) × (g' ≡ g)

-- a value that goes to a register, or nowhere
abbrev pub with_value : Dest → (v : ℕ) → State → State
with_value (Register n) v s = record s { r = slice_set s.r n v }
with_value Nowhere v s = s
with_value (Memory at) v s = s
