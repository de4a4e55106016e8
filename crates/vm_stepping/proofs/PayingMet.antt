-- The first touches that count the misses after a run that stopped before an instruction.
use Rattle.std.proofs.Common.{◌≡◌, ℕ, ◌+◌, ◌<◌, ◌≤◌, ◌⊎◌, inl, inr, Bool, List, [], Option, is_some, refl, ap, ◌∙◌, sym, subst, arith}
use Rattle.vax_arch.specs.Walk.{page_of}
use Rattle.vax_arch.specs.declared.mode.Intent.{Intent}
use Rattle.vax_hw.specs.Machine.{Machine}
use Rattle.vax_hw.specs.declared.world.Exit.{Exit}
use Rattle.vax_hw.specs.declared.world.Exit.TheVariants.{Denied, Modify, NotValid}
use Rattle.vax_table.specs.Interaction as interaction
use Rattle.vax_table.specs.Interaction.{cause_of}
use Rattle.vax_table.specs.Troubles.{intent_of}
use Rattle.vm_exception.specs.Standing.{standing}
use Rattle.vm_stepping.specs.Guarded.{ExitIsMet}
use Rattle.vm_simulation_laws.specs.Misses.{KeepsFilled}
use Rattle.vm_simulation_laws.specs.Present.{to_miss}
use Rattle.vm_simulation_laws.specs.Runs.{MissesThere, Reaches}
use Rattle.vm_simulation_laws.proofs.Fitting.{fills_keep, one_filled}
use Rattle.vm_shadow.specs.Layout.{all_entries}
use Rattle.vm_shadow.specs.Laws.{guest_place}
use Rattle.vm_shadow.specs.Shadowed.{Shadowed}
use Rattle.vm_shadow.specs.StandsFor.{FillsPage, StandsFor, own_number}
use Rattle.vm_shadow.proofs.Covering.{present_covered}
use Rattle.vm_shadow.proofs.Hearing.{number_is_small}
use Rattle.vm_simulation_laws.specs.Bursts.{missed_by}
use Rattle.vm_simulation_laws.specs.Laws.{IsMissed}
use Rattle.vm_simulation_laws.specs.Loaded.{guest_try}
use Rattle.vm_state.specs.Partition.{guest_of}
use Rattle.vm_state.specs.Step.{Fault, Stepped, by_try, clear_met, executed, faulted, stopped}
use Rattle.vm_state.specs.Stops.{PastMemory}
use Rattle.vm_state.specs.State.{Guest}
use Rattle.vm_state.specs.Translation.{look}
use Rattle.vm_state.specs.declared.exception.Exc.TheVariants as excs
use Rattle.vm_state.specs.declared.guest_state.GuestState.{GuestState}
use Rattle.vm_state.specs.declared.walk.MemFault.{MemFault}
use Rattle.vm_state.specs.declared.walk.Walk.TheVariants as walks
use Rattle.vm_stepping.specs.Made.{Made, underway}
use Rattle.vm_stepping.specs.Pays.{OwesStill, PaysFor, Settles, WereMissed}
use Rattle.vm_stepping.specs.declared.counts.Counts.{Counts}
use Rattle.vm_stepping.proofs.MissingPages.{faults, present, stops, walked}
use Rattle.vm_stepping.proofs.Paying.{fills_owe, kept_owe, missed_there, step_settles}
use Rattle.vm_simulation_laws.specs.Touched.{AreFilled, touches_now}

-- the step that is made is the instruction's
pub made_settles : {Port : Type 0} {may : Port → List ℕ → Type 0} {x : Stepped} {port port' : Port} {m : Machine} {s : Shadowed} {g : GuestState} {c : Counts} {m' : Machine} {s' : Shadowed} {g' : GuestState} {c' : Counts} → (missed : ℕ) →
    StandsFor m.memory s g → by_try (guest_of m.memory g) (guest_try (guest_of m.memory g)) ≡ x → AreFilled s (touches_now (guest_of m.memory g)).found → missed ≤ to_miss s (touches_now (guest_of m.memory g)) → Made may x (underway port m s g c) (underway port' m' s' g' c') → Settles missed m s g m' s'
unfolding executed
made_settles {x = x} {m = m} {s = s} {g = g} {m' = m'} {s' = s'} missed stands is filled within made =
    step_settles missed m s g m' s' (record x { touched = touches_now (guest_of m.memory g) }) stands (ap (λ (y : Stepped). record y { touched = touches_now (guest_of m.memory g) }) is) refl filled made.moves within made.misses

pub none_within : (s : Shadowed) (h : Guest) → 0 ≤ to_miss s (touches_now h)
none_within s h = omega arith

were_few : (missed : ℕ) (va : ℕ) (s : Shadowed) (h : Guest) → (missed ≡ 0) ⊎ ((missed ≡ 1) × MissesThere va s h) → missed ≤ to_miss s (touches_now h)
were_few missed va s h (inl none) = omega (arith, none)
were_few missed va s h (inr one) = let there : 1 ≤ to_miss s (touches_now h) = missed_there va s h one.1 in omega (arith, there, one.0)

module _ (m : Machine) (s : Shadowed) (g : GuestState) (va : ℕ) (i : Intent) (stands : StandsFor m.memory s g) (k : IsMissed i va m.memory s g) (missed : ℕ) (w : WereMissed missed i va m.memory s g) where
  abbrev here : Guest
  here = guest_of m.memory g

  abbrev n : ℕ
  n = own_number s (page_of va)

  -- the page is filled
  pub fill_pays : (pa : ℕ) (entry table : Option ℕ) → walks.Frame pa entry table ≡ walked m s g va i stands k → (m' : Machine) (s' : Shadowed) → FillsPage (page_of va) g m s m' s' → OwesStill missed m s g m' s'
  fill_pays pa entry table e m' s' f = by w.there
    where
      same : m'.misses ≡ m.misses
      same = ap (λ (x : Machine). x.misses) f.only.rest

      kept : KeepsFilled s s'
      kept = fills_keep (look here (page_of va)) n s s' f.fills

      inside : n < all_entries
      inside = number_is_small [] m.memory s g stands.keeps stands.serves va (present_covered m.memory s g (page_of va) stands.keeps.fits stands.serves (present m s g va i stands k pa entry table e))

      by : (missed ≡ 0) ⊎ ((missed ≡ 1) × MissesThere va s here) → OwesStill missed m s g m' s'
      by (inl none) = subst (λ c. OwesStill c m s g m' s') (sym none) (kept_owe m s g m' s' kept same)
      by (inr one) =
          let fewer : to_miss s' (touches_now here) + 1 ≤ to_miss s (touches_now here) = one_filled (touches_now here) s s' (page_of va) (look here (page_of va)) one.1.touched (ap is_some one.1.empty) (omega (arith, inside, stands.keeps.remembers.whole)) f.fills in
          fills_owe missed m s g m' s' kept (omega (arith, fewer, one.0)) same

  module _ {Port : Type 0} (may : Port → List ℕ → Type 0) (port port' : Port) (c : Counts) (m' : Machine) (s' : Shadowed) (g' : GuestState) (c' : Counts) where
    -- the guest's own fault
    pub fault_pays : (f : MemFault) → walks.Fault f ≡ walked m s g va i stands k → Made may (faulted here (excs.Memory f)) (underway port m s g c) (underway port' m' s' g' c') → Settles missed m s g m' s'
    fault_pays f e made = made_settles missed stands (faults m s g va i stands k f e) (w.filled (cause_of f.not_valid) (ap guest_place (sym e))) (were_few missed va s here w.there) made

    pub stop_pays : walks.Beyond ≡ walked m s g va i stands k → Made may (stopped here PastMemory Fault) (underway port m s g c) (underway port' m' s' g' c') → Settles missed m s g m' s'
    stop_pays e made = made_settles missed stands (stops m s g va i stands k e) (w.filled interaction.Past (ap guest_place (sym e))) (were_few missed va s here w.there) made

-- By the exit.
module _ (b : Bool) (m : Machine) (s : Shadowed) (g : GuestState) (m' : Machine) (s' : Shadowed) (exit : Exit) where
  abbrev Missing : Intent → ℕ → Type 0
  Missing i va = (missed : ℕ) → WereMissed missed i va m.memory s g → PaysFor b missed (standing m s g) m' s'

  pub not_valid_pays : (va : ℕ) (write : Bool) (i : Intent) → exit ≡ NotValid va write → i ≡ intent_of write → Reaches exit m.memory s g → Missing i va → PaysFor b (missed_by exit) (standing m s g) m' s'
  not_valid_pays va write i is way reaches pays =
      let r = subst (λ e. Reaches e m.memory s g) is reaches in
      subst (λ e. PaysFor b (missed_by e) (standing m s g) m' s') (sym is) (subst (λ j. Missing j va) way pays 1 (record { there = inr (refl, r.0); filled = λ c e. r.1 (c, e) }))

  pub denied_pays : (va : ℕ) (write : Bool) (i : Intent) → exit ≡ Denied va write → i ≡ intent_of write → Reaches exit m.memory s g → Missing i va → PaysFor b (missed_by exit) (standing m s g) m' s'
  denied_pays va write i is way reaches pays =
      let r = subst (λ e. Reaches e m.memory s g) is reaches in
      subst (λ e. PaysFor b (missed_by e) (standing m s g) m' s') (sym is) (subst (λ j. Missing j va) way pays 0 (record { there = inl refl; filled = λ c e. r }))

  pub none_missed : (e : Exit) → exit ≡ e → missed_by e ≡ 0 → PaysFor b 0 (standing m s g) m' s' → PaysFor b (missed_by exit) (standing m s g) m' s'
  none_missed e is none pays = subst (λ c. PaysFor b c (standing m s g) m' s') (sym (ap missed_by is ∙ none)) pays

module _ {Port : Type 0} (may : Port → List ℕ → Type 0) (port port' : Port) (m : Machine) (s : Shadowed) (g : GuestState) (c : Counts) (m' : Machine) (s' : Shadowed) (g' : GuestState) (c' : Counts) (stands : StandsFor m.memory s g) (exit : Exit) (reaches : Reaches exit m.memory s g) where
  pub clear_pays : (va : ℕ) → exit ≡ Modify va → ExitIsMet exit m.memory s g → Made may (clear_met (guest_of m.memory g) va) (underway port m s g c) (underway port' m' s' g' c') → Settles (missed_by exit) m s g m' s'
  clear_pays va is told made =
      let t = subst (λ e. ExitIsMet e m.memory s g) is told in
      subst (λ e. Settles (missed_by e) m s g m' s') (sym is)
      (made_settles 0 stands (ap (by_try (guest_of m.memory g)) t.1) (subst (λ e. Reaches e m.memory s g) is reaches) (none_within s (guest_of m.memory g)) made)
