-- No fault of a sensitive instruction is an interrupt.
use Rattle.std.proofs.Common.{ℕ, ◌==◌, length, [], ◌∷◌, Option, Some, None, Result, Ok, Err}
use Rattle.std.specs.Prelude.{slice_index}
use Rattle.std.proofs.lemmas.Bool.{cond_both}
use Rattle.vax_arch.specs.Fields.{is_on_interrupt_stack, mode_number}
use Rattle.vax_arch.specs.Rei.{rei_refuses}
use Rattle.vax_arch.specs.declared.mode.Mode.{Mode}
use Rattle.vax_table.specs.Interaction.{At, Test, Trouble, outcome}
use Rattle.vax_table.specs.Tries.{Clear, Completes, Stopped, Tried, tried}
use Rattle.vax_table.specs.declared.act.Dest.{Dest}
use Rattle.vax_table.specs.declared.act.Dest.TheVariants.{Memory, Nowhere, Register}
use Rattle.vax_table.specs.declared.act.Refusal.{Refusal}
use Rattle.vax_table.specs.declared.act.Refusal.TheVariants as refusals
use Rattle.vax_table.specs.declared.act.Sens.{Sens}
use Rattle.vax_table.specs.declared.act.Sens.TheVariants.{Chm, Halt, Ldpctx, Mfpr, Mtpr, Prober, Probew, Rei, Svpctx, Wait}
use Rattle.vax_table.specs.declared.act.Trapped.{Trapped}
use Rattle.vm_exception.specs.Initiated.{IsProper}
use Rattle.vm_state.specs.Contexts as contexts
use Rattle.vm_state.specs.Contexts.{after_push, after_reads, is_block_past, is_block_reserved, loaded, loads_context, saves_context, two_popped}
use Rattle.vm_state.specs.Initiate.{Initiation, KernelStackBad, StopsGuest, Taken, initiate, new_mode}
use Rattle.vm_state.specs.Packets.{accepted}
use Rattle.vm_state.specs.Pushes.{Faulty, Homes, PastMemory, Walked, push_walked}
use Rattle.vm_state.specs.Registers.{Value, Written, read, written}
use Rattle.vm_state.specs.Sensed.{ClearAt, Does, Faults, LacksMemory, Sensed, StopsThere, fault_of, troubled}
use Rattle.vm_state.specs.Sensitive.{after_register_read, change_mode, chm_walked, destination_walked, guest_past_instruction, mfpr_by, mode_changed, mtpr_by, packet_taken, past_instruction, put_at, rei_by, sensed, with_codes, with_register_effect}
use Rattle.vm_state.specs.State.{Guest, State, mode_of_state, pointer_of}
use Rattle.vm_state.specs.Translation.{is_clear, space_of, walk_of}
use Rattle.vm_state.specs.declared.exception.Exc.TheVariants as excs
use Rattle.vm_state.specs.declared.register.RegisterEffect.{RegisterEffect}
use Rattle.vm_state.specs.declared.register.RegisterEffect.TheVariants as effects
use Rattle.vm_state.specs.declared.register.ReservedOperand.{ReservedOperand}
use Rattle.vm_state.specs.declared.transfer.Accept.{Accept}
use Rattle.vm_state.specs.declared.transfer.Accept.TheVariants.{BadPacket, Busy, Queued}
use Rattle.vm_state.specs.declared.walk.Walk.{Walk}
use Rattle.vm_state.specs.declared.walk.Walk.TheVariants as walks

-- its fault, where it has one, can be initiated
abbrev pub HasProperFault : Sensed → Type 0
HasProperFault (Does h shown frames) = Unit {0}
HasProperFault (Faults e) = IsProper e
HasProperFault (ClearAt va) = Unit {0}
HasProperFault (StopsThere stop) = Unit {0}
HasProperFault LacksMemory = Unit {0}

proper_changed : (i : Initiation) → HasProperFault (mode_changed i)
proper_changed (Taken h written) = tt
proper_changed (KernelStackBad h written) = tt
proper_changed (StopsGuest stop) = tt

proper_walked : (i : Initiation) (w : Walked) → HasProperFault (chm_walked i w)
proper_walked i (Homes hs) = proper_changed i
proper_walked i (Faulty f) = tt
proper_walked i PastMemory = tt

proper_chm : (g : Guest) (t : Trapped) (to : Mode) → HasProperFault (change_mode g t to)
proper_chm g t to =
    let h = guest_past_instruction g t in
    let e = excs.Chm to t.a in
    let m = new_mode g.state e in
    cond_both (is_on_interrupt_stack g.state.psl) _ _ HasProperFault (λ k. tt) (λ k.
    cond_both (mode_number m == 0) _ _ HasProperFault (λ k. proper_changed (initiate h e)) (λ k.
    proper_walked (initiate h e) (push_walked h m (pointer_of h.state (mode_number m)) (g.state.psl ∷ t.next_pc ∷ t.a ∷ []))))

proper_walk : (w : Walk) → HasProperFault (fault_of w)
proper_walk (walks.Fault f) = tt
proper_walk (walks.Frame pa entry table) = tt
proper_walk walks.Beyond = tt

proper_refusal : (g : Guest) (r : Refusal) → HasProperFault (troubled g (Test r))
proper_refusal g refusals.Instruction = tt
proper_refusal g refusals.ReservedOperand = tt
proper_refusal g refusals.Addressing = tt
proper_refusal g refusals.Customer = tt
proper_refusal g refusals.Breakpoint = tt

proper_trouble : (g : Guest) (t : Trouble) → HasProperFault (troubled g t)
proper_trouble g (At cause i va) = proper_walk (walk_of g va (mode_of_state g.state) i)
proper_trouble g (Test refusal) = proper_refusal g refusal

proper_rei : (g : Guest) (t : Trapped) (p : Result contexts.Popped Trouble) → HasProperFault (rei_by g t p)
proper_rei g t (Err trouble) = proper_trouble g trouble
proper_rei g t (Ok p) = cond_both (rei_refuses g.state.psl p.psl) _ _ HasProperFault (λ k. tt) (λ k. tt)

proper_packet : (g : Guest) (s : State) (packet : ℕ) (a : Accept) → HasProperFault (packet_taken g s packet a)
proper_packet g s packet BadPacket = tt
proper_packet g s packet Busy = tt
proper_packet g s packet Queued = tt

proper_effect : (g : Guest) (s : State) (e : RegisterEffect) → HasProperFault (with_register_effect g s e)
proper_effect g s effects.Done = tt
proper_effect g s effects.Remap = tt
proper_effect g s (effects.Show byte) = tt
proper_effect g s (effects.Kcall packet) = proper_packet g s packet (accepted (length g.memory) s packet)

proper_mtpr : (g : Guest) (v : ℕ) (w : Result Written ReservedOperand) → HasProperFault (mtpr_by g v w)
proper_mtpr g v (Err refused) = tt
proper_mtpr g v (Ok w) = proper_effect g (with_codes v w.state) w.effect

proper_put : (g : Guest) (dest : Dest) (v : Value) → HasProperFault (put_at g dest v)
proper_put g Nowhere v = tt
proper_put g (Register n) v = tt
proper_put g (Memory at) v = tt

proper_read : (g : Guest) (dest : Dest) (clear : Option ℕ) (v : Result Value ReservedOperand) → HasProperFault (after_register_read g dest clear v)
proper_read g dest clear (Err refused) = tt
proper_read g dest (Some va) (Ok v) = tt
proper_read g dest None (Ok v) = proper_put g dest v

proper_mfpr : (g : Guest) (t : Trapped) (x : Tried ℕ) → HasProperFault (mfpr_by g t x)
proper_mfpr g t (Stopped trouble) = proper_trouble g trouble
proper_mfpr g t (Clear va) = proper_read g t.dest (Some va) (read (length g.memory) (past_instruction g.state t) t.a)
proper_mfpr g t (Completes old) = proper_read g t.dest None (read (length g.memory) (past_instruction g.state t) t.a)

proper_push : (g : Guest) (s : State) (w : Walked) → HasProperFault (after_push g s w)
proper_push g s (Homes hs) = tt
proper_push g s (Faulty f) = tt
proper_push g s PastMemory = tt

proper_loads : (g : Guest) (next_pc : ℕ) → HasProperFault (loads_context g next_pc)
unfolding loads_context
proper_loads g next_pc =
    cond_both (is_block_past g) LacksMemory _ HasProperFault (λ k. tt) (λ k.
    cond_both (is_block_reserved g) (Faults excs.ReservedOperand) _ HasProperFault (λ k. tt) (λ k. proper_push g (loaded g next_pc) _))

proper_pops : (g : Guest) (next_pc : ℕ) (r : Result contexts.Popped Trouble) → HasProperFault (after_reads g next_pc r)
proper_pops g next_pc (Err trouble) = proper_trouble g trouble
proper_pops g next_pc (Ok p) = cond_both (is_block_past g) LacksMemory _ HasProperFault (λ k. tt) (λ k. tt)

proper_saves : (g : Guest) (next_pc : ℕ) → HasProperFault (saves_context g next_pc)
unfolding saves_context
proper_saves g next_pc = proper_pops g next_pc (outcome (space_of g) (two_popped (slice_index g.state.r 14)))

pub proper_fault : (g : Guest) (t : Trapped) (op : Sens) → HasProperFault (sensed g t op)
unfolding sensed
proper_fault g t Halt = tt
proper_fault g t Wait = tt
proper_fault g t (Chm to) = proper_chm g t to
proper_fault g t Rei = proper_rei g t (outcome (space_of g) (two_popped (slice_index t.regs 14)))
proper_fault g t Mtpr = proper_mtpr g t.a (written (past_instruction g.state t) t.b t.a)
proper_fault g t Mfpr = proper_mfpr g t (tried (space_of g) (is_clear g) (destination_walked t.dest))
proper_fault g t Ldpctx = proper_loads g t.next_pc
proper_fault g t Svpctx = proper_saves g t.next_pc
proper_fault g t Prober = tt
proper_fault g t Probew = tt
