-- MTPR, of a guest whose register is written already: what it asks for besides.
use Rattle.std.specs.Prelude.{◌≡◌, ℕ, Result, Ok, Err}
use Rattle.vax_table.specs.declared.act.Trapped.{Trapped}
use Rattle.vax_hw.specs.Machine.{Machine}
use Rattle.vm_shadow.specs.Shadowed.{Shadowed, own}
use Rattle.vm_shadow.specs.StandsFor.{Stores}
use Rattle.vm_state.specs.Packets.{busy_status, status_place}
use Rattle.vm_state.specs.Registers.{written}
use Rattle.vm_state.specs.Sensitive.{past_instruction, with_codes}
use Rattle.vm_state.specs.State.{State, state_of}
use Rattle.vm_state.specs.Translation.{long_stored}
use Rattle.vm_state.specs.declared.guest_state.GuestState.{GuestState}
use Rattle.vm_state.specs.declared.register.RegisterEffect.{RegisterEffect}
use Rattle.vm_state.specs.declared.register.ReservedOperand.{ReservedOperand}
use Rattle.vm_state.specs.declared.transfer.Accept.{Accept}
use Rattle.vm_state.specs.declared.transfer.Accept.TheVariants.{BadPacket, Busy, Queued}

-- the register is written and the codes are set; a refused write leaves the guest as it was
abbrev pub MovesToRegister : GuestState → Trapped → Result RegisterEffect ReservedOperand → GuestState → Type 0
MovesToRegister g t (Ok effect) g' = (u : State) × (written (past_instruction (state_of g) t) t.b t.a ≡ Ok (record { state = u; effect = effect })) × (state_of g' ≡ with_codes t.a u)
MovesToRegister g t (Err refused) g' = (written (past_instruction (state_of g) t) t.b t.a ≡ Err refused) × (g' ≡ g)

-- a packet that finds the queue full has its status, and else nothing is written
abbrev pub IsStatusSet : Accept → (packet : ℕ) → Machine → Shadowed → Machine → Shadowed → Type 0
IsStatusSet Busy packet m s m' s' = Stores (status_place packet) (long_stored (status_place packet) busy_status (own m.memory s)) m s m' s'
IsStatusSet Queued packet m s m' s' = (m' ≡ m) × (s' ≡ s)
IsStatusSet BadPacket packet m s m' s' = (m' ≡ m) × (s' ≡ s)
