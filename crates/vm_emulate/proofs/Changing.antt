-- CHM.
use Rattle.std.proofs.Common.{◌≡◌, ℕ, true, false, eqb, List, [], ◌∷◌, ◌++◌, refl, ap, ◌∙◌, sym, subst}
use Rattle.std.specs.Prelude.{slice_index}
use Rattle.std.proofs.lemmas.Bool.{cond_both}
use Rattle.vax_arch.specs.Fields.{is_on_interrupt_stack, mode_number}
use Rattle.vax_arch.specs.declared.mode.Mode.{Mode}
use Rattle.vax_hw.specs.Machine.{Machine}
use Rattle.vax_table.specs.declared.act.Trapped.{Trapped}
use Rattle.vm_emulate.specs.Changed.{is_done, mode_change_sensed}
use Rattle.vm_emulate.specs.Emulated.{EmulatesTo, IsSensed, Senses, past_memory}
use Rattle.vm_emulate.specs.declared.emulated.Emulated.{Emulated}
use Rattle.vm_emulate.specs.declared.emulated.Emulated.TheVariants as outcomes
use Rattle.vm_emulate.proofs.Telling.{follows_drops}
use Rattle.vm_exception.specs.Attempted.{Stays}
use Rattle.vm_exception.specs.Standing.{standing}
use Rattle.vm_exception.specs.Initiated.{Initiates, InitiatesTo, IsInitiated, StopsWith}
use Rattle.vm_exception.specs.declared.initiated.Initiated.TheVariants as starts
use Rattle.vm_shadow.specs.Shadowed.{Shadowed}
use Rattle.vm_shadow.specs.StandsFor.{OnlyGuest, StandsFor}
use Rattle.vm_state.specs.Initiate.{Initiation, KernelStackBad, StopsGuest, Taken, initiate, new_mode}
use Rattle.vm_state.specs.Partition.{guest_of, partition_of}
use Rattle.vm_state.specs.Pushes.{Faulty, Homes, PastMemory, Walked, push_walked}
use Rattle.vm_state.specs.Sensed.{ClearAt, Does, Faults, LacksMemory, Sensed, StopsThere}
use Rattle.vm_state.specs.Sensitive.{change_mode, chm_walked, guest_past_instruction, mode_changed}
use Rattle.vm_state.specs.State.{Guest, HasPlace, State, pc_of, pointer_of, state_of}
use Rattle.vm_state.specs.declared.exception.Exc.{Exc}
use Rattle.vm_state.specs.declared.exception.Exc.TheVariants.{Chm}
use Rattle.vm_state.specs.declared.guest_state.GuestState.{GuestState}

pub goes_on : (h : Guest) (frames : List ℕ) (m' : Machine) (s s' : Shadowed) (g' : GuestState) → StandsFor m'.memory s' g' → InitiatesTo h frames s m' s' g' → EmulatesTo h frames s m' s' g'
goes_on h frames m' s s' g' stands b = record {
  guest = b.guest;
  follows = follows_drops frames m'.memory s s' h.state.tables stands.keeps.fits (stands.serves.told ∙ ap (λ (x : Guest). x.state.tables) b.guest) b.drops;
}

module _ (e : Exc) (m m' : Machine) (s s' : Shadowed) (g g' : GuestState) where
  begun : (i : Initiation) → i ≡ initiate (guest_of m.memory g) e → IsInitiated i starts.Taken (standing m s g) (standing m' s' g') → StandsFor m'.memory s' g' → HasPlace g.pages g.base g.start g' → OnlyGuest s m m' → Senses (mode_changed (initiate (guest_of m.memory g) e)) m s g outcomes.Done m' s' g'
  begun (Taken h frames) is b stands place only = subst (λ x. Senses (mode_changed x) m s g outcomes.Done m' s' g') is (record { is = goes_on h frames m' s s' g' stands b; stands = stands; place = place; only = only })
  begun (KernelStackBad h frames) is b stands place only = absurd b
  begun (StopsGuest stop) is b stands place only = absurd b

  begun_bad : (i : Initiation) → i ≡ initiate (guest_of m.memory g) e → IsInitiated i starts.KernelStackBad (standing m s g) (standing m' s' g') → StandsFor m'.memory s' g' → HasPlace g.pages g.base g.start g' → OnlyGuest s m m' → Senses (mode_changed (initiate (guest_of m.memory g) e)) m s g outcomes.Done m' s' g'
  begun_bad (KernelStackBad h frames) is b stands place only = subst (λ x. Senses (mode_changed x) m s g outcomes.Done m' s' g') is (record { is = goes_on h frames m' s s' g' stands b; stands = stands; place = place; only = only })
  begun_bad (Taken h frames) is b stands place only = absurd b
  begun_bad (StopsGuest stop) is b stands place only = absurd b

  stopped : (code : ℕ) (i : Initiation) → i ≡ initiate (guest_of m.memory g) e → IsInitiated i (starts.Stopped code) (standing m s g) (standing m' s' g') → StandsFor m'.memory s' g' → HasPlace g.pages g.base g.start g' → OnlyGuest s m m' → Senses (mode_changed (initiate (guest_of m.memory g) e)) m s g (outcomes.Stopped code) m' s' g'
  stopped code (StopsGuest stop) is b stands place only = subst (λ x. Senses (mode_changed x) m s g (outcomes.Stopped code) m' s' g') is (record { is = b; stands = stands; place = place; only = only })
  stopped code (Taken h frames) is b stands place only = absurd b
  stopped code (KernelStackBad h frames) is b stands place only = absurd b

  pub is_taken : Initiates e m s g starts.Taken m' s' g' → Senses (mode_changed (initiate (guest_of m.memory g) e)) m s g outcomes.Done m' s' g'
  is_taken i = begun (initiate (guest_of m.memory g) e) refl i.is i.stands i.place i.only

  pub is_bad : Initiates e m s g starts.KernelStackBad m' s' g' → Senses (mode_changed (initiate (guest_of m.memory g) e)) m s g outcomes.Done m' s' g'
  is_bad i = begun_bad (initiate (guest_of m.memory g) e) refl i.is i.stands i.place i.only

  pub is_stopped : (code : ℕ) → Initiates e m s g (starts.Stopped code) m' s' g' → Senses (mode_changed (initiate (guest_of m.memory g) e)) m s g (outcomes.Stopped code) m' s' g'
  is_stopped code i = stopped code (initiate (guest_of m.memory g) e) refl i.is i.stands i.place i.only

-- A guest that is past an instruction, and the guest as it was before.

-- it stops at no clear modify bit
abbrev IsUnmarked : Sensed → Type 0
IsUnmarked (ClearAt va) = ⊥
IsUnmarked _ = Unit {0}

changed_unmarked : (i : Initiation) → IsUnmarked (mode_changed i)
changed_unmarked (Taken h frames) = tt
changed_unmarked (KernelStackBad h frames) = tt
changed_unmarked (StopsGuest stop) = tt

walked_unmarked : (i : Initiation) (w : Walked) → IsUnmarked (chm_walked i w)
walked_unmarked i (Homes hs) = changed_unmarked i
walked_unmarked i (Faulty f) = tt
walked_unmarked i PastMemory = tt

entered_unmarked : (h : Guest) (to : Mode) (code : ℕ) → IsUnmarked (mode_change_sensed h to code)
entered_unmarked h to code =
    let e = Chm to code in
    let n = new_mode h.state e in
    cond_both (eqb (mode_number n) 0) _ _ IsUnmarked (λ k. changed_unmarked (initiate h e)) (λ k. walked_unmarked (initiate h e) (push_walked h n (pointer_of h.state (mode_number n)) (h.state.psl ∷ pc_of h.state ∷ code ∷ [])))

-- general registers as they were
abbrev with_registers : List ℕ → GuestState → GuestState
with_registers r g = record g { r = r }

registers_stand : (memory : List ℕ) (s : Shadowed) (r : List ℕ) (g : GuestState) → StandsFor memory s g → StandsFor memory s (with_registers r g)
registers_stand memory s r g k = record {
  keeps = k.keeps;
  serves = record { pages = k.serves.pages; base = k.serves.base; told = k.serves.told };
  allowed = let a = k.allowed in record { p0br = a.p0br; p0lr = a.p0lr; p1br = a.p1br; p1lr = a.p1lr; sbr = a.sbr; slr = a.slr; pcbb = a.pcbb; scbb = a.scbb; astlvl = a.astlvl; sisr = a.sisr; psl = a.psl; packets = a.packets; few = a.few };
}

module _ (m m' : Machine) (s s' : Shadowed) (r : List ℕ) (g g2 : GuestState) where
  abbrev Before : Sensed → Emulated → GuestState → Type 0
  Before x result h = Senses x m s (with_registers r g) result m' s' h

  pub went_on : (x : Sensed) (result : Emulated) → is_done result ≡ true → Before x result g2 → Senses x m s g result m' s' g2
  went_on x result e k = by x result e k.is
    where
      all : (x : Sensed) (result : Emulated) → IsSensed x result m s g m' s' g2 → Senses x m s g result m' s' g2
      all x result is = record { is = is; stands = k.stands; place = record { pages = k.place.pages; base = k.place.base; start = k.place.start }; only = k.only }

      by : (x : Sensed) (result : Emulated) → is_done result ≡ true → IsSensed x result m s (with_registers r g) m' s' g2 → Senses x m s g result m' s' g2
      by (Does h shown frames) outcomes.Done e is = all (Does h shown frames) outcomes.Done is
      by (Does h shown frames) (outcomes.SetModify at) e is = cc
      by (Does h shown frames) (outcomes.Fault f) e is = cc
      by (Does h shown frames) (outcomes.Stopped code) e is = cc
      by (Does h shown frames) outcomes.PastMemory e is = cc
      by (Does h shown frames) outcomes.Filled e is = cc
      by (Faults f) outcomes.Done e is = absurd is
      by (Faults f) (outcomes.SetModify at) e is = cc
      by (Faults f) (outcomes.Fault h) e is = cc
      by (Faults f) (outcomes.Stopped code) e is = cc
      by (Faults f) outcomes.PastMemory e is = cc
      by (Faults f) outcomes.Filled e is = cc
      by (ClearAt va) outcomes.Done e is = absurd is
      by (ClearAt va) (outcomes.SetModify at) e is = cc
      by (ClearAt va) (outcomes.Fault f) e is = cc
      by (ClearAt va) (outcomes.Stopped code) e is = cc
      by (ClearAt va) outcomes.PastMemory e is = cc
      by (ClearAt va) outcomes.Filled e is = cc
      by (StopsThere stop) outcomes.Done e is = absurd is
      by (StopsThere stop) (outcomes.SetModify at) e is = cc
      by (StopsThere stop) (outcomes.Fault f) e is = cc
      by (StopsThere stop) (outcomes.Stopped code) e is = cc
      by (StopsThere stop) outcomes.PastMemory e is = cc
      by (StopsThere stop) outcomes.Filled e is = cc
      by LacksMemory outcomes.Done e is = absurd is
      by LacksMemory (outcomes.SetModify at) e is = cc
      by LacksMemory (outcomes.Fault f) e is = cc
      by LacksMemory (outcomes.Stopped code) e is = cc
      by LacksMemory outcomes.PastMemory e is = cc
      by LacksMemory outcomes.Filled e is = cc

  stayed_before : Stays m s (with_registers r g) m' s' g2 → Stays m s g m' s' (with_registers g.r g2)
  stayed_before k = record { machine = k.machine; shadow = k.shadow; guest = ap (with_registers g.r) k.guest }

  stopped_before : (code : ℕ) → StopsWith code m s (with_registers r g) m' s' g2 → StopsWith code m s g m' s' (with_registers g.r g2)
  stopped_before code k = record { state = ap (λ (x : State). record x { r = g.r }) k.state; machine = k.machine; shadow = k.shadow }

  pub went_back : (x : Sensed) (result : Emulated) → IsUnmarked x → is_done result ≡ false → Before x result g2 → Senses x m s g result m' s' (with_registers g.r g2)
  went_back x result u e k = by x result u e k.is
    where
      all : (x : Sensed) (result : Emulated) → IsSensed x result m s g m' s' (with_registers g.r g2) → Senses x m s g result m' s' (with_registers g.r g2)
      all x result is = record { is = is; stands = registers_stand m'.memory s' g.r g2 k.stands; place = record { pages = k.place.pages; base = k.place.base; start = k.place.start }; only = k.only }

      by : (x : Sensed) (result : Emulated) → IsUnmarked x → is_done result ≡ false → IsSensed x result m s (with_registers r g) m' s' g2 → Senses x m s g result m' s' (with_registers g.r g2)
      by (Does h shown frames) outcomes.Done u e is = cc
      by (Does h shown frames) (outcomes.SetModify at) u e is = absurd is
      by (Does h shown frames) (outcomes.Fault f) u e is = absurd is
      by (Does h shown frames) (outcomes.Stopped code) u e is = absurd is
      by (Does h shown frames) outcomes.PastMemory u e is = absurd is
      by (Does h shown frames) outcomes.Filled u e is = absurd is
      by (Faults f) outcomes.Done u e is = absurd is
      by (Faults f) (outcomes.SetModify at) u e is = absurd is
      by (Faults f) (outcomes.Fault h) u e is = all (Faults f) (outcomes.Fault h) (is.0, stayed_before is.1)
      by (Faults f) (outcomes.Stopped code) u e is = absurd is
      by (Faults f) outcomes.PastMemory u e is = absurd is
      by (Faults f) outcomes.Filled u e is = absurd is
      by (ClearAt va) result u e is = absurd u
      by (StopsThere stop) outcomes.Done u e is = absurd is
      by (StopsThere stop) (outcomes.SetModify at) u e is = absurd is
      by (StopsThere stop) (outcomes.Fault f) u e is = absurd is
      by (StopsThere stop) (outcomes.Stopped code) u e is = all (StopsThere stop) (outcomes.Stopped code) (is.0, stopped_before code is.1)
      by (StopsThere stop) outcomes.PastMemory u e is = absurd is
      by (StopsThere stop) outcomes.Filled u e is = absurd is
      by LacksMemory outcomes.Done u e is = absurd is
      by LacksMemory (outcomes.SetModify at) u e is = absurd is
      by LacksMemory (outcomes.Fault f) u e is = absurd is
      by LacksMemory (outcomes.Stopped code) u e is = absurd is
      by LacksMemory outcomes.PastMemory u e is = all LacksMemory outcomes.PastMemory (stopped_before past_memory is)
      by LacksMemory outcomes.Filled u e is = absurd is

-- CHM from the guest that is past it
by_entering : (g : Guest) (t : Trapped) (to : Mode) → is_on_interrupt_stack g.state.psl ≡ false → slice_index (t.regs ++ t.next_pc ∷ []) 15 ≡ t.next_pc → change_mode g t to ≡ mode_change_sensed (guest_past_instruction g t) to t.a
by_entering g t to off pc = rw (off, pc) refl

module _ (m m' : Machine) (s s' : Shadowed) (r : List ℕ) (g g2 : GuestState) (t : Trapped) (to : Mode) (result : Emulated) (off : is_on_interrupt_stack g.psl.0 ≡ false) (is : r ≡ t.regs ++ t.next_pc ∷ []) (pc : slice_index r 15 ≡ t.next_pc) where
  abbrev entered_by : List ℕ → Sensed
  entered_by x = mode_change_sensed (record { memory = partition_of m.memory g; state = record (state_of g) { r = x } }) to t.a

  same_change : entered_by r ≡ change_mode (guest_of m.memory g) t to
  same_change = ap entered_by is ∙ sym (by_entering (guest_of m.memory g) t to off (sym (ap (λ x. slice_index x 15) is) ∙ pc))

  pub change_done : Senses (entered_by r) m s (with_registers r g) result m' s' g2 → is_done result ≡ true → Senses (change_mode (guest_of m.memory g) t to) m s g result m' s' g2
  change_done k e = subst (λ x. Senses x m s g result m' s' g2) same_change (went_on m m' s s' r g g2 (entered_by r) result e k)

  pub change_undone : Senses (entered_by r) m s (with_registers r g) result m' s' g2 → is_done result ≡ false → Senses (change_mode (guest_of m.memory g) t to) m s g result m' s' (record g2 { r = g.r })
  change_undone k e = subst (λ x. Senses x m s g result m' s' (with_registers g.r g2)) same_change (went_back m m' s s' r g g2 (entered_by r) result (entered_unmarked (record { memory = partition_of m.memory g; state = record (state_of g) { r = r } }) to t.a) e k)
