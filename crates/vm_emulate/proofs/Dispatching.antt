-- Each instruction, by its own emulation.
use Rattle.std.proofs.Common.{◌≡◌, ℕ, ◌==◌, true, length, List, [], ◌∷◌, ◌++◌, append-nil, Option, Some, None, Result, Ok, Err, refl, ap, ◌∙◌, sym, subst}
use Rattle.std.specs.Prelude.{slice_index}
use Rattle.std.proofs.lemmas.Bool.{cond_both}
use Rattle.vax_arch.specs.Fields.{is_on_interrupt_stack, mode_number}
use Rattle.vax_arch.specs.Rei.{rei_refuses}
use Rattle.vax_arch.specs.declared.mode.Mode.{Mode}
use Rattle.vax_hw.specs.Machine.{Machine}
use Rattle.vax_table.specs.Interaction.{At, Test, Trouble, outcome}
use Rattle.vax_table.specs.Tries.{Clear, Completes, Stopped, Tried, tried}
use Rattle.vax_table.specs.declared.act.Dest.{Dest}
use Rattle.vax_table.specs.declared.act.Dest.TheVariants.{Memory, Nowhere, Register}
use Rattle.vax_table.specs.declared.act.Sens.{Sens}
use Rattle.vax_table.specs.declared.act.Sens.TheVariants.{Chm, Halt, Ldpctx, Mfpr, Mtpr, Prober, Probew, Rei, Svpctx, Wait}
use Rattle.vax_table.specs.declared.act.Trapped.{Trapped}
use Rattle.vm_console.specs.Appends.{Appends}
use Rattle.vm_emulate.specs.Emulated.{Emulates, IsEmulated, Senses, shown_by, shown_of}
use Rattle.vm_emulate.specs.declared.emulated.Emulated.{Emulated}
use Rattle.vm_emulate.specs.declared.emulated.Emulated.TheVariants as outcomes
use Rattle.vm_emulate.proofs.Sensing.{alone}
use Rattle.vm_shadow.specs.Shadowed.{Shadowed}
use Rattle.vm_shadow.specs.StandsFor.{OnlyGuest, StandsFor}
use Rattle.vm_state.specs.Contexts as contexts
use Rattle.vm_state.specs.Contexts.{after_push, after_reads, is_block_past, is_block_reserved, loaded, loads_context, saves_context, two_popped}
use Rattle.vm_state.specs.Initiate.{Initiation, KernelStackBad, StopsGuest, Taken, initiate, new_mode}
use Rattle.vm_state.specs.Partition.{guest_of}
use Rattle.vm_state.specs.Pushes.{Faulty, Homes, PastMemory, Walked, push_walked}
use Rattle.vm_state.specs.Registers.{Value, read}
use Rattle.vm_state.specs.Sensed.{ClearAt, Does, Faults, LacksMemory, Sensed, StopsThere, fault_of, troubled}
use Rattle.vm_state.specs.Sensitive.{after_register_read, change_mode, chm_walked, destination_walked, guest_past_instruction, mfpr_by, mode_changed, move_from_register, move_to_register, past_instruction, put_at, rei_by, return_from, sensed}
use Rattle.vm_state.specs.State.{Guest, HasPlace, State, mode_of_state, pointer_of, state_of}
use Rattle.vm_state.specs.Translation.{is_clear, space_of, walk_of}
use Rattle.vm_state.specs.declared.exception.Exc.TheVariants as excs
use Rattle.vm_state.specs.declared.guest_state.GuestState.{GuestState}
use Rattle.vm_state.specs.declared.register.ReservedOperand.{ReservedOperand}
use Rattle.vm_state.specs.declared.walk.Walk.{Walk}
use Rattle.vm_state.specs.declared.walk.Walk.TheVariants as walks

-- But for MTPR and HALT none shows anything.
abbrev pub IsSilent : Sensed → Type 0
IsSilent (Does h shown frames) = shown ≡ []
IsSilent (Faults e) = Unit {0}
IsSilent (ClearAt va) = Unit {0}
IsSilent (StopsThere stop) = Unit {0}
IsSilent LacksMemory = Unit {0}

silent_shows : (result : Emulated) (x : Sensed) → IsSilent x → shown_by result x ≡ []
silent_shows outcomes.Done (Does h shown frames) k = k
silent_shows (outcomes.SetModify at) (Does h shown frames) k = refl
silent_shows (outcomes.Fault f) (Does h shown frames) k = refl
silent_shows (outcomes.Stopped code) (Does h shown frames) k = refl
silent_shows outcomes.PastMemory (Does h shown frames) k = refl
silent_shows outcomes.Filled (Does h shown frames) k = refl
silent_shows outcomes.Done (Faults e) k = refl
silent_shows (outcomes.SetModify at) (Faults e) k = refl
silent_shows (outcomes.Fault f) (Faults e) k = refl
silent_shows (outcomes.Stopped code) (Faults e) k = refl
silent_shows outcomes.PastMemory (Faults e) k = refl
silent_shows outcomes.Filled (Faults e) k = refl
silent_shows outcomes.Done (ClearAt va) k = refl
silent_shows (outcomes.SetModify at) (ClearAt va) k = refl
silent_shows (outcomes.Fault f) (ClearAt va) k = refl
silent_shows (outcomes.Stopped code) (ClearAt va) k = refl
silent_shows outcomes.PastMemory (ClearAt va) k = refl
silent_shows outcomes.Filled (ClearAt va) k = refl
silent_shows outcomes.Done (StopsThere stop) k = refl
silent_shows (outcomes.SetModify at) (StopsThere stop) k = refl
silent_shows (outcomes.Fault f) (StopsThere stop) k = refl
silent_shows (outcomes.Stopped code) (StopsThere stop) k = refl
silent_shows outcomes.PastMemory (StopsThere stop) k = refl
silent_shows outcomes.Filled (StopsThere stop) k = refl
silent_shows outcomes.Done LacksMemory k = refl
silent_shows (outcomes.SetModify at) LacksMemory k = refl
silent_shows (outcomes.Fault f) LacksMemory k = refl
silent_shows (outcomes.Stopped code) LacksMemory k = refl
silent_shows outcomes.PastMemory LacksMemory k = refl
silent_shows outcomes.Filled LacksMemory k = refl

silent_changed : (i : Initiation) → IsSilent (mode_changed i)
silent_changed (Taken h written) = refl
silent_changed (KernelStackBad h written) = refl
silent_changed (StopsGuest stop) = tt

silent_walked : (i : Initiation) (w : Walked) → IsSilent (chm_walked i w)
silent_walked i (Homes hs) = silent_changed i
silent_walked i (Faulty f) = tt
silent_walked i PastMemory = tt

silent_chm : (g : Guest) (t : Trapped) (to : Mode) → IsSilent (change_mode g t to)
silent_chm g t to =
    let h = guest_past_instruction g t in
    let e = excs.Chm to t.a in
    let m = new_mode g.state e in
    cond_both (is_on_interrupt_stack g.state.psl) _ _ IsSilent (λ k. tt) (λ k.
    cond_both (mode_number m == 0) _ _ IsSilent (λ k. silent_changed (initiate h e)) (λ k.
    silent_walked (initiate h e) (push_walked h m (pointer_of h.state (mode_number m)) (g.state.psl ∷ t.next_pc ∷ t.a ∷ []))))

silent_fault : (w : Walk) → IsSilent (fault_of w)
silent_fault (walks.Fault f) = tt
silent_fault (walks.Frame pa entry table) = tt
silent_fault walks.Beyond = tt

silent_trouble : (g : Guest) (t : Trouble) → IsSilent (troubled g t)
silent_trouble g (At cause i va) = silent_fault (walk_of g va (mode_of_state g.state) i)
silent_trouble g (Test refusal) = tt

silent_rei : (g : Guest) (t : Trapped) (p : Result contexts.Popped Trouble) → IsSilent (rei_by g t p)
silent_rei g t (Err trouble) = silent_trouble g trouble
silent_rei g t (Ok p) = cond_both (rei_refuses g.state.psl p.psl) _ _ IsSilent (λ k. tt) (λ k. refl)

silent_put : (g : Guest) (dest : Dest) (v : Value) → IsSilent (put_at g dest v)
silent_put g Nowhere v = refl
silent_put g (Register n) v = refl
silent_put g (Memory at) v = refl

silent_read : (g : Guest) (dest : Dest) (clear : Option ℕ) (v : Result Value ReservedOperand) → IsSilent (after_register_read g dest clear v)
silent_read g dest clear (Err refused) = tt
silent_read g dest (Some va) (Ok v) = tt
silent_read g dest None (Ok v) = silent_put g dest v

silent_mfpr : (g : Guest) (t : Trapped) (x : Tried ℕ) → IsSilent (mfpr_by g t x)
silent_mfpr g t (Stopped trouble) = silent_trouble g trouble
silent_mfpr g t (Clear va) = silent_read g t.dest (Some va) (read (length g.memory) (past_instruction g.state t) t.a)
silent_mfpr g t (Completes old) = silent_read g t.dest None (read (length g.memory) (past_instruction g.state t) t.a)

silent_push : (g : Guest) (s : State) (w : Walked) → IsSilent (after_push g s w)
silent_push g s (Homes hs) = refl
silent_push g s (Faulty f) = tt
silent_push g s PastMemory = tt

silent_loads : (g : Guest) (next_pc : ℕ) → IsSilent (loads_context g next_pc)
unfolding loads_context
silent_loads g next_pc =
    cond_both (is_block_past g) LacksMemory _ IsSilent (λ k. tt) (λ k.
    cond_both (is_block_reserved g) (Faults excs.ReservedOperand) _ IsSilent (λ k. tt) (λ k. silent_push g (loaded g next_pc) _))

silent_pops : (g : Guest) (next_pc : ℕ) (r : Result contexts.Popped Trouble) → IsSilent (after_reads g next_pc r)
silent_pops g next_pc (Err trouble) = silent_trouble g trouble
silent_pops g next_pc (Ok p) = cond_both (is_block_past g) LacksMemory _ IsSilent (λ k. tt) (λ k. refl)

silent_saves : (g : Guest) (next_pc : ℕ) → IsSilent (saves_context g next_pc)
unfolding saves_context
silent_saves g next_pc = silent_pops g next_pc (outcome (space_of g) (two_popped (slice_index g.state.r 14)))

-- by the instruction
abbrev pub IsQuiet : Sens → Type 0
IsQuiet Halt = ⊥
IsQuiet Mtpr = ⊥
IsQuiet op = Unit {0}

silent : (g : Guest) (t : Trapped) (op : Sens) → IsQuiet op → IsSilent (sensed g t op)
unfolding sensed
silent g t Halt k = absurd k
silent g t Wait k = refl
silent g t (Chm to) k = silent_chm g t to
silent g t Rei k = silent_rei g t (outcome (space_of g) (two_popped (slice_index t.regs 14)))
silent g t Mtpr k = absurd k
silent g t Mfpr k = silent_mfpr g t (tried (space_of g) (is_clear g) (destination_walked t.dest))
silent g t Ldpctx k = silent_loads g t.next_pc
silent g t Svpctx k = silent_saves g t.next_pc
silent g t Prober k = tt
silent g t Probew k = tt

pub shows_nothing : {Port : Type 0} (may : Port → List ℕ → Type 0) (port : Port) (g : Guest) (t : Trapped) (op : Sens) (result : Emulated) → t.op ≡ op → IsQuiet op → Appends may port port (shown_of g t result)
shows_nothing may port g t op result e k given h =
    let none : shown_of g t result ≡ [] = ap (λ o. shown_by result (sensed g t o)) e ∙ silent_shows result (sensed g t op) (silent g t op k) in
    subst (λ (x : List ℕ). may port (given ++ x)) (sym none) (subst (may port) (sym (append-nil given)) h)

pub mtpr_shows : {Port : Type 0} (may : Port → List ℕ → Type 0) (port port' : Port) (g : Guest) (t : Trapped) (result : Emulated) → t.op ≡ Mtpr → Appends may port port' (shown_by result (move_to_register g t)) → Appends may port port' (shown_of g t result)
unfolding sensed
mtpr_shows may port port' g t result e h = subst (λ (x : List ℕ). Appends may port port' x) (sym (ap (λ o. shown_by result (sensed g t o)) e)) h

module _ (t : Trapped) (m : Machine) (s : Shadowed) (g : GuestState) (result : Emulated) (m' : Machine) (s' : Shadowed) (g' : GuestState) where
  by_op : (op : Sens) → t.op ≡ op → IsEmulated op t result m s g m' s' g' → StandsFor m'.memory s' g' → HasPlace g.pages g.base g.start g' → OnlyGuest s m m' → Emulates t m s g result m' s' g'
  by_op op e is stands place only = record { is = subst (λ o. IsEmulated o t result m s g m' s' g') (sym e) is; stands = stands; place = place; only = only }

  pub chm : (to : Mode) → t.op ≡ Chm to → Senses (change_mode (guest_of m.memory g) t to) m s g result m' s' g' → Emulates t m s g result m' s' g'
  unfolding sensed
  chm to e k = by_op (Chm to) e k.is k.stands k.place k.only

  pub mtpr : t.op ≡ Mtpr → Senses (move_to_register (guest_of m.memory g) t) m s g result m' s' g' → Emulates t m s g result m' s' g'
  unfolding sensed
  mtpr e k = by_op Mtpr e k.is k.stands k.place k.only

  pub mfpr : t.op ≡ Mfpr → Senses (move_from_register (guest_of m.memory g) t) m s g result m' s' g' → Emulates t m s g result m' s' g'
  unfolding sensed
  mfpr e k = by_op Mfpr e k.is k.stands k.place k.only

  pub ldpctx : t.op ≡ Ldpctx → Senses (loads_context (guest_of m.memory g) t.next_pc) m s g result m' s' g' → Emulates t m s g result m' s' g'
  unfolding sensed
  ldpctx e k = by_op Ldpctx e k.is k.stands k.place k.only

  pub svpctx : t.op ≡ Svpctx → Senses (saves_context (guest_of m.memory g) t.next_pc) m s g result m' s' g' → Emulates t m s g result m' s' g'
  unfolding sensed
  svpctx e k = by_op Svpctx e k.is k.stands k.place k.only

  pub rei : t.op ≡ Rei → Senses (return_from (guest_of m.memory g) t) m s g result m' s' g' → Emulates t m s g result m' s' g'
  unfolding sensed
  rei e k = by_op Rei e k.is k.stands k.place k.only

module _ (t : Trapped) (m : Machine) (s : Shadowed) (g g' : GuestState) (stands : StandsFor m.memory s g) where
  pub halts : (result : Emulated) → t.op ≡ Halt → result ≡ outcomes.Stopped 6 → state_of g' ≡ record (past_instruction (state_of g) t) { halt = Some 6 } → HasPlace g.pages g.base g.start g' → Emulates t m s g result m s g'
  unfolding sensed
  halts result e is state place =
      let k = alone t Halt (record (past_instruction (state_of g) t) { halt = Some 6 }) _ m s g g' stands refl state place refl in
      subst (λ x. Emulates t m s g x m s g') (sym is) (by_op t m s g (outcomes.Stopped 6) m s g' Halt e (refl, k.is) k.stands k.place k.only)

  pub waits : (result : Emulated) → t.op ≡ Wait → result ≡ outcomes.Done → state_of g' ≡ record (past_instruction (state_of g) t) { waiting = true } → HasPlace g.pages g.base g.start g' → Emulates t m s g result m s g'
  unfolding sensed
  waits result e is state place =
      let k = alone t Wait (record (past_instruction (state_of g) t) { waiting = true }) [] m s g g' stands refl state place refl in
      subst (λ x. Emulates t m s g x m s g') (sym is) (by_op t m s g outcomes.Done m s g' Wait e k.is k.stands k.place k.only)
