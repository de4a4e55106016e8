-- A step that the emulation of an instruction makes, counted.
use Rattle.std.proofs.Common.{◌≡◌, ℕ, ◌+◌, List, [], ◌++◌, append-nil, length, refl, ap, ◌∙◌, sym, subst, arith}
use Rattle.vax_hw.specs.Machine.{Machine}
use Rattle.vax_table.specs.declared.act.Trapped.{Trapped}
use Rattle.vm_console.specs.Appends.{Appends}
use Rattle.vm_emulate.specs.Emulated.{Emulates, shown_of}
use Rattle.vm_emulate.specs.declared.emulated.Emulated.{Emulated}
use Rattle.vm_emulate.specs.declared.emulated.Emulated.TheVariants as outcomes
use Rattle.vm_exception.specs.Attempted.{Stays}
use Rattle.vm_exception.specs.Initiated.{IsProper}
use Rattle.vm_simulation_laws.specs.Misses.{KeepsFilled}
use Rattle.vm_shadow.specs.Shadowed.{Shadowed}
use Rattle.vm_shadow.specs.StandsFor.{StandsFor}
use Rattle.vm_simulation_laws.specs.Laws.{IsTrapped}
use Rattle.vm_simulation_laws.specs.Loaded.{guest_try}
use Rattle.vm_state.specs.Partition.{guest_of}
use Rattle.vm_state.specs.Run.{tallied}
use Rattle.vm_state.specs.Step.{Stepped, by_try, faulted}
use Rattle.vm_state.specs.declared.exception.Exc.{Exc}
use Rattle.vm_state.specs.declared.guest_state.GuestState.{GuestState}
use Rattle.vm_stepping.specs.Made.{Made, Refills, steps_in, tally_of, underway}
use Rattle.vm_stepping.specs.declared.counts.Counts.{Counts}
use Rattle.vm_stepping.proofs.Making.{only_both, same_counts}
use Rattle.vm_stepping.proofs.SensingSteps.{Comes, Steps, text_now, trap_comes}

-- nothing is shown, and then something
pub shows_then : {Port : Type 0} (may : Port → List ℕ → Type 0) (p q r : Port) (none text : List ℕ) → none ≡ [] → Appends may p q none → Appends may q r text → Appends may p r text
shows_then may p q r none text e a b given h = b given (subst (may q) (append-nil given) (subst (λ (x : List ℕ). may q (given ++ x)) e (a given h)))

module _ {Port : Type 0} (may : Port → List ℕ → Type 0) (t : Trapped) (result : Emulated) (port port1 : Port) (m : Machine) (s : Shadowed) (g : GuestState) (c : Counts) (m' : Machine) (s' : Shadowed) (g' : GuestState)
    (stands : StandsFor m.memory s g) (trapped : IsTrapped t m.memory s g) (few : length t.regs ≡ 15) (regs : length g.r ≡ 16) (k : Emulates t m s g result m' s' g') (shows : Appends may port port1 (shown_of (guest_of m.memory g) t result)) where
  abbrev x : Stepped
  x = by_try (guest_of m.memory g) (guest_try (guest_of m.memory g))

  abbrev shown : List ℕ
  shown = shown_of (guest_of m.memory g) t result

  comes_to : (r : Emulated) → result ≡ r → Comes r x shown m s g m' s' g'
  comes_to r e = subst (λ y. Comes y x shown m s g m' s' g') e (trap_comes m s g m' s' g' stands k.stands k.place k.only t result trapped few regs k.is)

  made : (port' : Port) (c' : Counts) → Steps x s m' s' g' → Appends may port port' x.shown → tally_of c' ≡ tallied x.kind (tally_of c) → steps_in c' ≡ steps_in c + 1 → c'.plain ≡ c.plain → c'.trail ≡ c.trail → Made may x (underway port m s g c) (underway port' m' s' g' c')
  made port' c' is shows tally one plain trail = record {
    run = λ before i. record { guest = sym is.guest i; shown = before ++ x.shown; tally = sym tally i };
    shows = shows;
    goes = record { stands = k.stands; only = only_both s m m' k.only; place = k.place; tables = is.tables };
    one = one;
    retired = same_counts m m' c c' k.only.rest plain trail;
    misses = ap (λ (y : Machine). y.misses) k.only.rest;
    moves = is.moves;
  }

  pub made_done : result ≡ outcomes.Done → Made may x (underway port m s g c) (underway port1 m' s' g' (record c { sensitive = c.sensitive + 1 }))
  made_done e =
      let to = comes_to outcomes.Done e in
      made port1 (record c { sensitive = c.sensitive + 1 }) to.0 (subst (Appends may port port1) (sym to.1) shows) (ap (λ kind. tallied kind (tally_of c)) (sym to.2)) (omega arith) refl refl

  pub made_modify : (at : ℕ) → result ≡ outcomes.SetModify at → Made may x (underway port m s g c) (underway port1 m' s' g' (record c { modify = c.modify + 1 }))
  made_modify at e =
      let to = comes_to (outcomes.SetModify at) e in
      made port1 (record c { modify = c.modify + 1 }) to.0 (subst (Appends may port port1) (to.3 ∙ sym to.1) shows) (ap (λ kind. tallied kind (tally_of c)) (sym to.2)) (omega arith) refl refl

  pub made_stopped : (code : ℕ) (port' : Port) → result ≡ outcomes.Stopped code → Appends may port1 port' (text_now code g') → Made may x (underway port m s g c) (underway port' m' s' g' (record c { sensitive = c.sensitive + 1 }))
  made_stopped code port' e text =
      let to = comes_to (outcomes.Stopped code) e in
      made port' (record c { sensitive = c.sensitive + 1 }) to.0 (subst (Appends may port port') (sym to.1) (shows_then may port port1 port' shown (text_now code g') to.3 shows text)) (ap (λ kind. tallied kind (tally_of c)) (sym to.2)) (omega arith) refl refl

  pub made_past : (port' : Port) → result ≡ outcomes.PastMemory → Appends may port1 port' (text_now 0x10 g') → Made may x (underway port m s g c) (underway port' m' s' g' (record c { faults = c.faults + 1 }))
  made_past port' e text =
      let to = comes_to outcomes.PastMemory e in
      made port' (record c { faults = c.faults + 1 }) to.0 (subst (Appends may port port') (sym to.1) (shows_then may port port1 port' shown (text_now 0x10 g') to.3 shows text)) (ap (λ kind. tallied kind (tally_of c)) (sym to.2)) (omega arith) refl refl

  pub fault_proper : (e : Exc) → result ≡ outcomes.Fault e → IsProper e
  fault_proper e is = (comes_to (outcomes.Fault e) is).1

  pub fault_stays : (e : Exc) → result ≡ outcomes.Fault e → Stays m s g m' s' g'
  fault_stays e is = (comes_to (outcomes.Fault e) is).2

  module _ (e : Exc) (port' : Port) (m2 : Machine) (s2 : Shadowed) (g2 : GuestState) (c2 : Counts) where
    abbrev IsMade : Stepped → Port → Machine → Shadowed → GuestState → Type 0
    IsMade y p n u h = Made may y (underway p n u h c) (underway port' m2 s2 g2 c2)

    from_here : Stays m s g m' s' g' → IsMade (faulted (guest_of m'.memory g') e) port1 m' s' g' → IsMade (faulted (guest_of m.memory g) e) port1 m s g
    from_here same y =
        subst (λ h. IsMade (faulted (guest_of m.memory h) e) port1 m s h) same.guest
        (subst (λ u. IsMade (faulted (guest_of m.memory g') e) port1 m u g') same.shadow
        (subst (λ (n : Machine). IsMade (faulted (guest_of n.memory g') e) port1 n s' g') same.machine y))

    pub made_fault_then : result ≡ outcomes.Fault e → IsMade (faulted (guest_of m'.memory g') e) port1 m' s' g' → IsMade x port m s g
    made_fault_then is y =
        let to = comes_to (outcomes.Fault e) is in
        let z = from_here to.2 y in
        subst (λ w. IsMade w port m s g) (sym to.0) (record { run = z.run; shows = shows_then may port port1 port' shown (faulted (guest_of m.memory g) e).shown to.3 shows z.shows; goes = z.goes; one = z.one; retired = z.retired; misses = z.misses; moves = z.moves })

  pub refilled : result ≡ outcomes.Filled → Refills m s g m' s' g'
  refilled e = (comes_to outcomes.Filled e).0

  pub refilled_keeps : result ≡ outcomes.Filled → KeepsFilled s s'
  refilled_keeps e = (comes_to outcomes.Filled e).2

  pub shows_nothing_then : result ≡ outcomes.Filled → Appends may port port1 []
  shows_nothing_then e = subst (Appends may port port1) (comes_to outcomes.Filled e).1 shows
