-- The step of an instruction that trapped, by the outcome of its emulation.
use Rattle.std.proofs.Common.{◌≡◌, ℕ, ◌*◌, ◌%◌, ◌^◌, Bool, true, false, List, [], ◌∷◌, ◌++◌, length, take, Some, refl, ap, ◌∙◌, sym, subst, arith}
use Rattle.std.specs.Prelude.{if◌then◌else◌, slice_index}
use Rattle.std.proofs.lemmas.List.{get_or_push, take_all, take_more}
use Rattle.vax_arch.specs.Walk.{Tables, page_of}
use Rattle.vax_arch.specs.declared.mode.Intent.{Intent}
use Rattle.vax_arch.specs.declared.mode.Intent.TheVariants as intents
use Rattle.vax_hw.specs.Machine.{Machine}
use Rattle.vax_table.specs.Effects.{long_of}
use Rattle.vax_table.specs.Plan.{probed}
use Rattle.vax_table.specs.Probing.{last_of}
use Rattle.vax_table.specs.Whole.{Act, Plain, Probes, Traps, probe_of, trap_of}
use Rattle.vax_table.specs.declared.act.Sens.{Sens}
use Rattle.vax_table.specs.declared.act.Sens.TheVariants.{Halt, Prober, Probew}
use Rattle.vax_table.specs.declared.act.Trapped.{Trapped}
use Rattle.vax_table.specs.declared.evaluation.Operands.{Operands}
use Rattle.vm_emulate.specs.Emulated.{IsEmulated, IsHalted, IsProbed, IsSensed, halted_guest, marked_guest, probed_trap, shown_by, shown_of, with_probe}
use Rattle.vm_emulate.specs.Followed.{Follows}
use Rattle.vm_emulate.specs.declared.emulated.Emulated.{Emulated}
use Rattle.vm_emulate.specs.declared.emulated.Emulated.TheVariants as outcomes
use Rattle.vm_emulate.proofs.Probings.{plain_then}
use Rattle.vm_exception.specs.Attempted.{Stays}
use Rattle.vm_exception.specs.Initiated.{InitiatesTo, IsProper, StopsWith}
use Rattle.vm_simulation_laws.specs.Misses.{KeepsFilled}
use Rattle.vm_simulation_laws.specs.Moves.{Moves}
use Rattle.vm_simulation_laws.proofs.Own.{moves_alone}
use Rattle.vm_shadow.specs.Shadowed.{Shadowed}
use Rattle.vm_shadow.specs.StandsFor.{OnlyGuest, StandsFor}
use Rattle.vm_simulation_laws.specs.Laws.{IsTrap, IsTrapped, IsUnfilled}
use Rattle.vm_simulation_laws.specs.Loaded.{guest_try}
use Rattle.vm_state.specs.Partition.{guest_of, part, partition_of}
use Rattle.vm_state.specs.Probe.{Answers, NotValid, Probed}
use Rattle.vm_state.specs.Probe as probes
use Rattle.vm_state.specs.Sensed.{ClearAt, Does, Faults, LacksMemory, Sensed, StopsThere}
use Rattle.vm_state.specs.Sensitive.{sensed}
use Rattle.vm_state.specs.State.{Guest, HasPlace, State, pc_of, state_of, tables_of}
use Rattle.vm_state.specs.Step.{Fault, Sensitive, SetModify, Stepped, by_try, did, faulted, probed_as, sensed_as, stepped, stopped, with_effect}
use Rattle.vm_state.specs.Stops.{PastMemory, Stop, stop_code, stop_text}
use Rattle.vm_state.specs.Translation.{look, marks_by}
use Rattle.vm_state.specs.declared.exception.Exc.{Exc}
use Rattle.vm_state.specs.declared.exception.Exc.TheVariants as excs
use Rattle.vm_state.specs.declared.guest_state.GuestState.{GuestState}
use Rattle.vm_stepping.specs.Made.{Refills}
use Rattle.vm_stepping.proofs.SensingFaults.{HasProperFault, proper_fault}
use Rattle.vm_stepping.proofs.Paying.{among_dropped, follows_moves, stops_moves}
use Rattle.vm_stepping.proofs.SensingFilled.{keeps_filled, refills}
use Rattle.vm_stepping.proofs.SensingScripts.{ActIsProper, IsNoProbe, proper_act}

-- The guest is the step's, its real tables lie where they lay, and what is dropped is for what it writes and for its registers
-- alone.
pub record Steps (x : Stepped) (s : Shadowed) (m' : Machine) (s' : Shadowed) (g' : GuestState) : Type 0 where
  pub guest : guest_of m'.memory g' ≡ x.guest
  pub tables : s'.at ≡ s.at
  pub moves : Moves x.written x.guest.state.tables s s'

abbrev pub text_now : ℕ → GuestState → List ℕ
text_now code g' = stop_text code (pc_of (state_of g'))

-- What the definition's step is, by the outcome of the emulation, and what that showed by itself.
abbrev pub Comes : Emulated → Stepped → List ℕ → Machine → Shadowed → GuestState → Machine → Shadowed → GuestState → Type 0
Comes outcomes.Done x shown m s g m' s' g' = Steps x s m' s' g' × (x.shown ≡ shown) × (x.kind ≡ Sensitive)
Comes (outcomes.SetModify at) x shown m s g m' s' g' = Steps x s m' s' g' × (x.shown ≡ []) × (x.kind ≡ SetModify) × (shown ≡ [])
Comes (outcomes.Fault e) x shown m s g m' s' g' = (x ≡ faulted (guest_of m.memory g) e) × IsProper e × Stays m s g m' s' g' × (shown ≡ [])
Comes (outcomes.Stopped code) x shown m s g m' s' g' = Steps x s m' s' g' × (x.shown ≡ text_now code g') × (x.kind ≡ Sensitive) × (shown ≡ [])
Comes outcomes.PastMemory x shown m s g m' s' g' = Steps x s m' s' g' × (x.shown ≡ text_now 0x10 g') × (x.kind ≡ Fault) × (shown ≡ [])
Comes outcomes.Filled x shown m s g m' s' g' = Refills m s g m' s' g' × (shown ≡ []) × KeepsFilled s s'

follows_at : (frames : List ℕ) (t : Tables) (s s' : Shadowed) → Follows frames t s s' → s'.at ≡ s.at
follows_at frames t s s' f = ap (λ (x : Shadowed). x.at) f.rest ∙ ap (λ (x : Shadowed). x.at) f.drops.rest

-- registers in two parts
in_two : (r : List ℕ) → length r ≡ 16 → take 15 r ++ slice_index r 15 ∷ [] ≡ r
in_two r e = sym (take_more r 15 0 (omega arith)) ∙ take_all 16 r (omega arith)

last_one : (r : List ℕ) (pc : ℕ) → length r ≡ 15 → slice_index (r ++ pc ∷ []) 15 ≡ pc
last_one r pc e = get_or_push r pc 0 15 e

module _ (m : Machine) (s : Shadowed) (g : GuestState) (m' : Machine) (s' : Shadowed) (g' : GuestState) (stands : StandsFor m.memory s g) (still : StandsFor m'.memory s' g') (place : HasPlace g.pages g.base g.start g') (only : OnlyGuest s m m') where
  abbrev own : Guest
  own = guest_of m.memory g

  -- the guest stopped, and nothing else of it changed
  stops : (code : ℕ) → StopsWith code m s g m' s' g' → guest_of m'.memory g' ≡ record own { state = record own.state { halt = Some code } }
  stops code k =
      let memory : partition_of m'.memory g' ≡ partition_of m.memory g = λ i. part (k.machine i).memory (512 * place.base i) (512 * place.pages i) in
      λ i. record { memory = memory i; state = k.state i }

  same_text : (code : ℕ) → StopsWith code m s g m' s' g' → stop_text code (pc_of own.state) ≡ text_now code g'
  same_text code k = ap (λ (x : State). stop_text code (pc_of x)) (sym k.state)

  stops_at : (code : ℕ) → StopsWith code m s g m' s' g' → s'.at ≡ s.at
  stops_at code k = ap (λ (x : Shadowed). x.at) k.shadow

  comes_past : StopsWith 0x10 m s g m' s' g' → Comes outcomes.PastMemory (stopped own PastMemory Fault) [] m s g m' s' g'
  comes_past k = (record { guest = stops 0x10 k; tables = stops_at 0x10 k; moves = stops_moves 0x10 m s g m' s' g' stands k }, same_text 0x10 k, refl, refl)

  comes_stopped : (stop : Stop) (code : ℕ) → code ≡ stop_code stop → StopsWith code m s g m' s' g' → Comes (outcomes.Stopped code) (stopped own stop Sensitive) [] m s g m' s' g'
  comes_stopped stop code e k = (
    record { guest = stops code k ∙ ap (λ n. record own { state = record own.state { halt = Some n } }) e; tables = stops_at code k; moves = stops_moves code m s g m' s' g' stands k },
    ap (λ n. stop_text n (pc_of own.state)) (sym e) ∙ same_text code k,
    refl,
    refl,
  )

  comes_fault : (x : Stepped) (e f : Exc) → x ≡ faulted own e → IsProper e → f ≡ e → Stays m s g m' s' g' → Comes (outcomes.Fault f) x [] m s g m' s' g'
  comes_fault x e f is proper same k = (is ∙ ap (faulted own) (sym same), subst IsProper (sym same) proper, k, refl)

  clear_set : (va : ℕ) → g.modify_faults ≡ false → sensed_as own (ClearAt va) ≡ stepped (marked_guest own va) [] SetModify (marks_by (look own (page_of va)))
  clear_set va e = ap (λ b. if b then faulted own (excs.ModifyFault va) else stepped (marked_guest own va) [] SetModify (marks_by (look own (page_of va)))) e

  clear_moves : (va : ℕ) → InitiatesTo (marked_guest own va) (marks_by (look own (page_of va))) s m' s' g' → Moves (marks_by (look own (page_of va))) (tables_of g) s s'
  clear_moves va k = moves_alone (marks_by (look own (page_of va))) m'.memory s s' (tables_of g) still.keeps.fits (ap (λ (x : Shadowed). x.told) k.drops.rest ∙ stands.serves.told) (among_dropped (marks_by (look own (page_of va))) s s' k.drops)

  -- a sensitive instruction but HALT
  comes_sensed : (result : Emulated) (x : Sensed) → HasProperFault x → IsSensed x result m s g m' s' g' → Comes result (sensed_as own x) (shown_by result x) m s g m' s' g'
  comes_sensed outcomes.Done (Does h shown frames) p k = (record { guest = k.guest; tables = follows_at frames h.state.tables s s' k.follows; moves = follows_moves frames h.state.tables s s' k.follows }, refl, refl)
  comes_sensed (outcomes.Fault f) (Faults e) p k = comes_fault (faulted own e) e f refl p k.0 k.1
  comes_sensed (outcomes.Fault f) (ClearAt va) p k = comes_fault (sensed_as own (ClearAt va)) (excs.ModifyFault va) f (rw k.0) tt k.1 k.2
  comes_sensed (outcomes.SetModify at) (ClearAt va) p k =
      subst (λ x. Comes (outcomes.SetModify at) x [] m s g m' s' g') (sym (clear_set va k.1))
      (record { guest = k.3.guest; tables = ap (λ (x : Shadowed). x.at) k.3.drops.rest; moves = clear_moves va k.3 }, refl, refl, refl)
  comes_sensed (outcomes.Stopped code) (StopsThere stop) p k = comes_stopped stop code k.0 k.1
  comes_sensed outcomes.PastMemory LacksMemory p k = comes_past k
  comes_sensed (outcomes.SetModify at) (Does h shown frames) p k = absurd k
  comes_sensed (outcomes.Fault f) (Does h shown frames) p k = absurd k
  comes_sensed (outcomes.Stopped code) (Does h shown frames) p k = absurd k
  comes_sensed outcomes.PastMemory (Does h shown frames) p k = absurd k
  comes_sensed outcomes.Filled (Does h shown frames) p k = absurd k
  comes_sensed outcomes.Done (Faults e) p k = absurd k
  comes_sensed (outcomes.SetModify at) (Faults e) p k = absurd k
  comes_sensed (outcomes.Stopped code) (Faults e) p k = absurd k
  comes_sensed outcomes.PastMemory (Faults e) p k = absurd k
  comes_sensed outcomes.Filled (Faults e) p k = absurd k
  comes_sensed outcomes.Done (ClearAt va) p k = absurd k
  comes_sensed (outcomes.Stopped code) (ClearAt va) p k = absurd k
  comes_sensed outcomes.PastMemory (ClearAt va) p k = absurd k
  comes_sensed outcomes.Filled (ClearAt va) p k = absurd k
  comes_sensed outcomes.Done (StopsThere stop) p k = absurd k
  comes_sensed (outcomes.SetModify at) (StopsThere stop) p k = absurd k
  comes_sensed (outcomes.Fault f) (StopsThere stop) p k = absurd k
  comes_sensed outcomes.PastMemory (StopsThere stop) p k = absurd k
  comes_sensed outcomes.Filled (StopsThere stop) p k = absurd k
  comes_sensed outcomes.Done LacksMemory p k = absurd k
  comes_sensed (outcomes.SetModify at) LacksMemory p k = absurd k
  comes_sensed (outcomes.Fault f) LacksMemory p k = absurd k
  comes_sensed (outcomes.Stopped code) LacksMemory p k = absurd k
  comes_sensed outcomes.Filled LacksMemory p k = absurd k

  module _ (t : Trapped) where
    -- HALT
    comes_halted : (result : Emulated) → length t.regs ≡ 15 → IsHalted (halted_guest own t) result s m' s' g' → Comes result (sensed_as own (sensed own t Halt)) (shown_by result (sensed own t Halt)) m s g m' s' g'
    unfolding sensed
    comes_halted (outcomes.Stopped code) e k =
        let h = halted_guest own t in
        let pc : t.next_pc ≡ pc_of (state_of g') = sym (last_one t.regs t.next_pc e) ∙ ap (λ (x : Guest). pc_of x.state) (sym k.1.guest) in
        (record { guest = k.1.guest; tables = follows_at [] h.state.tables s s' k.1.follows; moves = follows_moves [] h.state.tables s s' k.1.follows }, ap (stop_text 0x06) pc ∙ ap (λ n. stop_text n (pc_of (state_of g'))) (sym k.0), refl, refl)
    comes_halted outcomes.Done e k = absurd k
    comes_halted (outcomes.SetModify at) e k = absurd k
    comes_halted (outcomes.Fault f) e k = absurd k
    comes_halted outcomes.PastMemory e k = absurd k
    comes_halted outcomes.Filled e k = absurd k

    comes_trap : (result : Emulated) (op : Sens) → length t.regs ≡ 15 → IsNoProbe op → IsEmulated op t result m s g m' s' g' → Comes result (sensed_as own (sensed own t op)) (shown_by result (sensed own t op)) m s g m' s' g'
    comes_trap result Halt e n k = comes_halted result e k
    comes_trap result Prober e n k = absurd n
    comes_trap result Probew e n k = absurd n
    comes_trap result op e n k = comes_sensed result (sensed own t op) (proper_fault own t op) k

  module _ (i : Intent) (o : Operands) where
    abbrev t : Trapped
    t = trap_of (probe_of i) o

    abbrev first : ℕ
    first = page_of (long_of o 2)

    -- PROBE that the kernel does
    with_same : (a : Bool) → length o.r ≡ 16 → with_probe a t own ≡ with_effect own (probed a o (own.state.psl % 2 ^ 8))
    with_same a e = λ j. record own { state = record own.state { r = in_two o.r e j; psl = (with_probe a t own).state.psl } }

    comes_probed : (opcode : ℕ) (result : Emulated) (x : Probed) → length o.r ≡ 16 → x ≡ probed_trap own i t → IsUnfilled (Probes i o) m.memory s g → IsProbed x t result m s g m' s' g' → Comes result (probed_as own opcode o x) [] m s g m' s' g'
    comes_probed opcode outcomes.Filled (Answers a true) e is u k =
        let two = plain_then i t m s g stands a true is refl in
        (refills first (page_of (last_of (long_of o 2) (long_of o 1 % 2 ^ 16))) g m s m' s' stands two.0 two.1 k.1 g' k.0 only (u two.0 two.1), refl, keeps_filled first (page_of (last_of (long_of o 2) (long_of o 1 % 2 ^ 16))) g m s m' s' stands two.0 two.1 k.1)
    comes_probed opcode outcomes.Done (Answers a false) e is u k = (record { guest = k.guest ∙ with_same a e; tables = follows_at [] (tables_of g) s s' k.follows; moves = follows_moves [] (tables_of g) s s' k.follows }, refl, refl)
    comes_probed opcode (outcomes.Fault f) (NotValid fault) e is u k = comes_fault (faulted own (excs.Memory fault)) (excs.Memory fault) f refl tt k.0 k.1
    comes_probed opcode outcomes.PastMemory probes.PastMemory e is u k = comes_past k
    comes_probed opcode outcomes.Done (Answers a true) e is u k = absurd k
    comes_probed opcode (outcomes.SetModify at) (Answers a true) e is u k = absurd k
    comes_probed opcode (outcomes.Fault f) (Answers a true) e is u k = absurd k
    comes_probed opcode (outcomes.Stopped code) (Answers a true) e is u k = absurd k
    comes_probed opcode outcomes.PastMemory (Answers a true) e is u k = absurd k
    comes_probed opcode (outcomes.SetModify at) (Answers a false) e is u k = absurd k
    comes_probed opcode (outcomes.Fault f) (Answers a false) e is u k = absurd k
    comes_probed opcode (outcomes.Stopped code) (Answers a false) e is u k = absurd k
    comes_probed opcode outcomes.PastMemory (Answers a false) e is u k = absurd k
    comes_probed opcode outcomes.Filled (Answers a false) e is u k = absurd k
    comes_probed opcode outcomes.Done (NotValid fault) e is u k = absurd k
    comes_probed opcode (outcomes.SetModify at) (NotValid fault) e is u k = absurd k
    comes_probed opcode (outcomes.Stopped code) (NotValid fault) e is u k = absurd k
    comes_probed opcode outcomes.PastMemory (NotValid fault) e is u k = absurd k
    comes_probed opcode outcomes.Filled (NotValid fault) e is u k = absurd k
    comes_probed opcode outcomes.Done probes.PastMemory e is u k = absurd k
    comes_probed opcode (outcomes.SetModify at) probes.PastMemory e is u k = absurd k
    comes_probed opcode (outcomes.Fault f) probes.PastMemory e is u k = absurd k
    comes_probed opcode (outcomes.Stopped code) probes.PastMemory e is u k = absurd k
    comes_probed opcode outcomes.Filled probes.PastMemory e is u k = absurd k

  -- PROBE shows nothing
  shows_none : (result : Emulated) (e : Exc) → shown_by result (Faults e) ≡ []
  shows_none outcomes.Done e = refl
  shows_none (outcomes.SetModify at) e = refl
  shows_none (outcomes.Fault f) e = refl
  shows_none (outcomes.Stopped code) e = refl
  shows_none outcomes.PastMemory e = refl
  shows_none outcomes.Filled e = refl

  by_probe : (opcode : ℕ) (result : Emulated) (i : Intent) (o : Operands) → length o.r ≡ 16 → IsUnfilled (Probes i o) m.memory s g → IsEmulated (probe_of i) (trap_of (probe_of i) o) result m s g m' s' g'
      → Comes result (did own opcode (Probes i o)) (shown_of own (trap_of (probe_of i) o) result) m s g m' s' g'
  unfolding sensed
  by_probe opcode result intents.Read o e u k =
      subst (λ z. Comes result (did own opcode (Probes intents.Read o)) z m s g m' s' g') (sym (shows_none result excs.ReservedInstruction))
      (comes_probed intents.Read o opcode result (probed_trap own intents.Read (trap_of Prober o)) e refl u k)
  by_probe opcode result intents.Write o e u k =
      subst (λ z. Comes result (did own opcode (Probes intents.Write o)) z m s g m' s' g') (sym (shows_none result excs.ReservedInstruction))
      (comes_probed intents.Write o opcode result (probed_trap own intents.Write (trap_of Probew o)) e refl u k)

  by_act : (t : Trapped) (result : Emulated) (opcode : ℕ) (act : Act) → IsTrap t act → IsUnfilled act m.memory s g → ActIsProper (length g.r) act → length t.regs ≡ 15 → length g.r ≡ 16 → IsEmulated t.op t result m s g m' s' g'
      → Comes result (did own opcode act) (shown_of own t result) m s g m' s' g'
  by_act t result opcode (Plain e) is u p few regs k = absurd is
  by_act t result opcode (Traps x) is u p few regs k =
      subst (λ (y : Trapped). Comes result (did own opcode (Traps y)) (shown_of own t result) m s g m' s' g') (sym is)
      (comes_trap t result t.op few (subst (λ (y : Trapped). IsNoProbe y.op) is p) k)
  by_act t result opcode (Probes i o) is u p few regs k =
      subst (λ (y : Trapped). Comes result (did own opcode (Probes i o)) (shown_of own y result) m s g m' s' g') is
      (by_probe opcode result i o (p ∙ regs) u (subst (λ (y : Trapped). IsEmulated y.op y result m s g m' s' g') (sym is) k))

  pub trap_comes : (t : Trapped) (result : Emulated) → IsTrapped t m.memory s g → length t.regs ≡ 15 → length g.r ≡ 16 → IsEmulated t.op t result m s g m' s' g' → Comes result (by_try own (guest_try own)) (shown_of own t result) m s g m' s' g'
  trap_comes t result trapped few regs k =
      subst (λ y. Comes result (by_try own y) (shown_of own t result) m s g m' s' g') (sym trapped.try)
      (by_act t result trapped.opcode trapped.act trapped.is trapped.unfilled (proper_act own trapped.opcode trapped.act trapped.try) few regs k)
