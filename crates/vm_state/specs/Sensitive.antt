-- What the sensitive instructions do to a guest, given their operands (VAX Architecture Reference Manual: change mode,
-- REI, processor registers, process structure, HALT; Hall and Robinson, Virtualizing the VAX Architecture, ISCA 1991,
-- for WAIT; the corner cases are profile).
use Rattle.std.specs.Prelude.{ℕ, ◌+◌, ◌*◌, ◌/◌, ◌%◌, ◌^◌, ◌==◌, ◌&&◌, true, not, nat_le, if◌then◌else◌, List, [], ◌∷◌, ◌++◌, length, slice_index, slice_set, Option, Some, None, Result, Ok, Err}
use Rattle.vv_base.specs.declared.width.Width.TheVariants.{Long}
use Rattle.vax_arch.specs.Fields.{current_of, is_on_interrupt_stack, mode_number}
use Rattle.vax_arch.specs.Rei.{rei_refuses}
use Rattle.vax_arch.specs.declared.mode.Intent.TheVariants.{Write}
use Rattle.vax_arch.specs.declared.mode.Mode.{Mode}
use Rattle.vax_table.specs.Arithmetic.{alu_of}
use Rattle.vax_table.specs.Claims.{addresses}
use Rattle.vax_table.specs.Operand.{plus}
use Rattle.vax_table.specs.Interaction.{Done, Interaction, Touch, Trouble, outcome}
use Rattle.vax_table.specs.Stores.{bytes_stored}
use Rattle.vax_table.specs.Tries.{Clear, Completes, Stopped, Tried, tried}
use Rattle.vax_table.specs.declared.act.Dest.{Dest}
use Rattle.vax_table.specs.declared.act.Dest.TheVariants.{Memory, Nowhere, Register}
use Rattle.vax_table.specs.declared.act.Sens.{Sens}
use Rattle.vax_table.specs.declared.act.Sens.TheVariants.{Chm, Halt, Ldpctx, Mfpr, Mtpr, Rei, Svpctx, Wait}
use Rattle.vax_table.specs.declared.act.Trapped.{Trapped}
use Rattle.vax_table.specs.declared.answer.AluOp.TheVariants.{Move}
use Rattle.vm_state.specs.Contexts.{Popped, loads_context, saves_context, two_popped}
use Rattle.vm_state.specs.Initiate.{Initiation, KernelStackBad, StopsGuest, Taken, initiate, new_mode}
use Rattle.vm_state.specs.Packets.{accepted, after_accept, busy_status, status_place}
use Rattle.vm_state.specs.Pushes.{Faulty, Homes, PastMemory, Walked, push_walked}
use Rattle.vm_state.specs.Registers.{Value, Written, read, written}
use Rattle.vm_state.specs.Sensed.{ClearAt, Does, Faults, LacksMemory, Sensed, StopsThere, troubled}
use Rattle.vm_state.specs.State.{Guest, State, pointer_of, stack_in, with_pointer_kept}
use Rattle.vm_state.specs.Stops.{ChangedMode, Halted, Stop, stop_code, stop_text}
use Rattle.vm_state.specs.Translation.{frame_at, guest_write_place, is_clear, long_stored, space_of}
use Rattle.vm_state.specs.declared.exception.Exc.TheVariants as excs
use Rattle.vm_state.specs.declared.register.RegisterEffect.{RegisterEffect}
use Rattle.vm_state.specs.declared.register.RegisterEffect.TheVariants as effects
use Rattle.vm_state.specs.declared.register.ReservedOperand.{ReservedOperand}
use Rattle.vm_state.specs.declared.transfer.Accept.{Accept}
use Rattle.vm_state.specs.declared.transfer.Accept.TheVariants.{BadPacket, Busy, Queued}

-- the registers with the operands' side effects, and PC after the instruction
abbrev pub past_instruction : State → Trapped → State
past_instruction s t = record s { r = t.regs ++ t.next_pc ∷ [] }

abbrev pub guest_past_instruction : Guest → Trapped → Guest
guest_past_instruction g t = record g { state = past_instruction g.state t }

-- another status word
abbrev pub with_psw : ℕ → ℕ → ℕ
with_psw psl psw = psl / 2 ^ 8 * 2 ^ 8 + psw % 2 ^ 8

-- the codes of a longword that is moved
abbrev pub with_codes : ℕ → State → State
with_codes v s = record s { psl = with_psw s.psl (alu_of Move v 0 Long (s.psl % 2 ^ 8)).psw }

-- HALT stops the guest, with PC after it
abbrev pub halted : Guest → Trapped → Sensed
halted g t =
    let h = guest_past_instruction g t in
    Does (record h { state = record h.state { halt = Some (stop_code Halted) } }) (stop_text (stop_code Halted) t.next_pc) []

-- WAIT: the guest waits for an interrupt
abbrev pub waited : Guest → Trapped → Sensed
waited g t = let h = guest_past_instruction g t in Does (record h { state = record h.state { waiting = true } }) [] []

-- CHM. Once it is initiated, it completes: by its own vector, by vector 08 where the kernel stack is bad, or with a stop.
abbrev pub mode_changed : Initiation → Sensed
mode_changed (Taken h written) = Does h [] written
mode_changed (KernelStackBad h written) = Does h [] written
mode_changed (StopsGuest stop) = StopsThere stop

-- It is initiated where its push was walked without trouble; a fault of that walk is CHM's own, before it does anything.
abbrev pub chm_walked : Initiation → Walked → Sensed
chm_walked i (Homes hs) = mode_changed i
chm_walked i (Faulty f) = Faults (excs.Memory f)
chm_walked i PastMemory = LacksMemory

abbrev pub change_mode : Guest → Trapped → Mode → Sensed
change_mode g t to =
    let h = guest_past_instruction g t in
    let e = excs.Chm to t.a in
    let m = new_mode g.state e in
    -- on the interrupt stack: a stop of the guest
    if is_on_interrupt_stack g.state.psl then StopsThere ChangedMode else
    -- to kernel mode: its initiation, which sees to a bad kernel stack
    if mode_number m == 0 then mode_changed (initiate h e) else
    -- to another mode: a walk of what it pushes on that mode's stack, and then its initiation
    chm_walked (initiate h e) (push_walked h m (pointer_of h.state (mode_number m)) (g.state.psl ∷ t.next_pc ∷ t.a ∷ []))

-- REI has three parts: what is popped (two_popped), what refuses it (rei_refuses), and what it leaves (returned_to).

-- the software levels that are requested after a return to a PSL: level 2 too, where its mode is at least ASTLVL and not on
-- the interrupt stack
abbrev pub requests_after : State → (psl : ℕ) → ℕ
requests_after s psl = if nat_le s.astlvl (mode_number (current_of psl)) && not (is_on_interrupt_stack psl) && not (s.sisr / 4 % 2 == 1) then s.sisr + 4 else s.sisr

-- The pointer after the two longwords is kept in its register, and R14 is the new stack's.
abbrev pub returned_to : State → Popped → State
returned_to s p =
    let kept = with_pointer_kept (record s { r = slice_set s.r 14 (plus (slice_index s.r 14) 8) }) in
    record kept {
      r = slice_set (slice_set kept.r 14 (slice_index kept.stacks (stack_in p.psl))) 15 p.pc;
      psl = p.psl;
      sisr = requests_after s p.psl;
    }

abbrev pub rei_by : Guest → Trapped → Result Popped Trouble → Sensed
rei_by g t (Err trouble) = troubled g trouble
rei_by g t (Ok p) =
    if rei_refuses g.state.psl p.psl then Faults excs.ReservedOperand else
    Does (record g { state = returned_to (past_instruction g.state t) p }) [] []

abbrev pub return_from : Guest → Trapped → Sensed
return_from g t = rei_by g t (outcome (space_of g) (two_popped (slice_index t.regs 14)))

-- MTPR: the value, and the register's number. Its codes are those of the value.
abbrev pub packet_taken : Guest → State → (packet : ℕ) → Accept → Sensed
packet_taken g s packet BadPacket = Faults excs.ReservedOperand
packet_taken g s packet Busy =
    Does (record { memory = long_stored (status_place packet) busy_status g.memory; state = s }) [] (frame_at (status_place packet) ∷ [])
packet_taken g s packet Queued = Does (record g { state = after_accept Queued packet s }) [] []

abbrev pub with_register_effect : Guest → State → RegisterEffect → Sensed
with_register_effect g s (effects.Show byte) = Does (record g { state = s }) (byte ∷ []) []
with_register_effect g s (effects.Kcall packet) = packet_taken g s packet (accepted (length g.memory) s packet)
with_register_effect g s effect = Does (record g { state = s }) [] []

abbrev pub mtpr_by : Guest → (v : ℕ) → Result Written ReservedOperand → Sensed
mtpr_by g v (Err refused) = Faults excs.ReservedOperand
mtpr_by g v (Ok w) = with_register_effect g (with_codes v w.state) w.effect

abbrev pub move_to_register : Guest → Trapped → Sensed
move_to_register g t = mtpr_by g t.a (written (past_instruction g.state t) t.b t.a)

-- MFPR: the register's number, and a destination, which is walked for writing before the number is tested
abbrev pub destination_walked : Dest → Interaction ℕ
destination_walked (Memory at) = Touch Write at 4 (λ old. Done old)
destination_walked dest = Done 0

abbrev pub frames_of_bytes : Guest → List ℕ → List ℕ
frames_of_bytes g [] = []
frames_of_bytes g (va ∷ vas) = frame_at (guest_write_place g va) ∷ frames_of_bytes g vas

abbrev pub put_at : Guest → Dest → Value → Sensed
put_at g Nowhere v = Does (record g { state = with_codes v.value v.state }) [] []
put_at g (Register n) v = Does (record g { state = with_codes v.value (record v.state { r = slice_set v.state.r n v.value }) }) [] []
put_at g (Memory at) v =
    Does (record { memory = bytes_stored (guest_write_place g) 4 at v.value g.memory; state = with_codes v.value v.state }) [] (frames_of_bytes g (addresses 4 at))

abbrev pub after_register_read : Guest → Dest → Option ℕ → Result Value ReservedOperand → Sensed
after_register_read g dest clear (Err refused) = Faults excs.ReservedOperand
after_register_read g dest (Some va) (Ok v) = ClearAt va
after_register_read g dest None (Ok v) = put_at g dest v

abbrev pub mfpr_by : Guest → Trapped → Tried ℕ → Sensed
mfpr_by g t (Stopped trouble) = troubled g trouble
mfpr_by g t (Clear va) = after_register_read g t.dest (Some va) (read (length g.memory) (past_instruction g.state t) t.a)
mfpr_by g t (Completes old) = after_register_read g t.dest None (read (length g.memory) (past_instruction g.state t) t.a)

abbrev pub move_from_register : Guest → Trapped → Sensed
move_from_register g t = mfpr_by g t (tried (space_of g) (is_clear g) (destination_walked t.dest))

-- each of them; PROBE is none
unfoldable pub sensed : Guest → Trapped → Sens → Sensed
sensed g t Halt = halted g t
sensed g t Wait = waited g t
sensed g t (Chm to) = change_mode g t to
sensed g t Rei = return_from g t
sensed g t Mtpr = move_to_register g t
sensed g t Mfpr = move_from_register g t
sensed g t Ldpctx = loads_context g t.next_pc
sensed g t Svpctx = saves_context g t.next_pc
sensed g t op = Faults excs.ReservedInstruction
