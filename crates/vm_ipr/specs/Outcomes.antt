-- What MTPR and MFPR leave of a guest, by their answers.
use Rattle.std.specs.Prelude.{◌≡◌, ℕ, ◌*◌, Result, Ok, Err}
use Rattle.vm_state.specs.Registers.{read, written}
use Rattle.vm_state.specs.State.{state_of}
use Rattle.vm_state.specs.declared.guest_state.GuestState.{GuestState}
use Rattle.vm_state.specs.declared.register.RegisterEffect.{RegisterEffect}
use Rattle.vm_state.specs.declared.register.ReservedOperand.{ReservedOperand}

-- a write by MTPR; a refused one leaves the guest as it was
abbrev pub WritesRegister : GuestState → GuestState → (number v : ℕ) → Result RegisterEffect ReservedOperand → Type 0
WritesRegister g h number v (Ok effect) = written (state_of g) number v ≡ Ok (record { state = state_of h; effect = effect })
WritesRegister g h number v (Err refused) = (written (state_of g) number v ≡ Err refused) × (h ≡ g)

-- a read by MFPR
abbrev pub ReadsRegister : GuestState → GuestState → (number : ℕ) → Result ℕ ReservedOperand → Type 0
ReadsRegister g h number (Ok v) = read (512 * g.pages) (state_of g) number ≡ Ok (record { value = v; state = state_of h })
ReadsRegister g h number (Err refused) = (read (512 * g.pages) (state_of g) number ≡ Err refused) × (h ≡ g)
