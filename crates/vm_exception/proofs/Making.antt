-- What an initiation makes of a guest in a step.
use Rattle.std.proofs.Common.{◌≡◌, ◌≢◌, ℕ, ◌*◌, List, [], Some, refl, ap, ◌∙◌, sym, subst, arith, ◌<◌}
use Rattle.vax_hw.specs.Machine.{Machine}
use Rattle.vm_exception.specs.Made.{MakesStep}
use Rattle.vm_exception.specs.Sources.{HasLevel, HasRequest}
use Rattle.vm_exception.proofs.Requests.{has_level, has_request, taken_keeps}
use Rattle.vm_exception.specs.Standing.{standing}
use Rattle.vm_exception.specs.Initiated.{Initiates, InitiatesTo, IsInitiated}
use Rattle.vm_exception.specs.declared.initiated.Initiated.{Initiated}
use Rattle.vm_exception.specs.declared.initiated.Initiated.TheVariants as outcomes
use Rattle.vm_shadow.specs.Shadowed.{Shadowed}
use Rattle.vm_shadow.specs.StandsFor.{OnlyGuest, StandsFor}
use Rattle.vm_state.specs.Allowed.{AreAllowed}
use Rattle.vm_state.specs.Initiate.{Initiation, KernelStackBad, StopsGuest, Taken, initiate}
use Rattle.vm_state.specs.Interrupts.{IntervalClock, Kcall, Receiver, Software, Source, Transmitter, due, interrupt_of, source_row}
use Rattle.vm_state.specs.Partition.{guest_of, part, partition_of}
use Rattle.vm_state.specs.State.{Guest, HasPlace, State, pc_of, state_of}
use Rattle.vm_state.specs.Step.{Interrupt, Kind, initiated_in, interrupted}
use Rattle.vm_state.specs.Stops.{stop_text}
use Rattle.vm_state.specs.declared.exception.Exc.{Exc}
use Rattle.vm_state.specs.declared.guest_state.GuestState.{GuestState}
use Rattle.vm_state.proofs.Initiations as began
use Rattle.vm_state.proofs.Initiations.{LevelFits, initiate_keeps}

-- Where the guest stops, that is shown.
module _ (code : ℕ) (m m' : Machine) (s s' : Shadowed) (g g' : GuestState) where
  stop_shown : (kind : Kind) (x : Initiation) → IsInitiated x (outcomes.Stopped code) (standing m s g) (standing m' s' g') → stop_text code (pc_of (state_of g')) ≡ (initiated_in kind (guest_of m.memory g) x).shown
  stop_shown kind (StopsGuest stop) b = λ i. stop_text (b.0 i) (pc_of (b.1.state i))
  stop_shown kind (Taken h frames) b = absurd b
  stop_shown kind (KernelStackBad h frames) b = absurd b

  pub begin_stops : (e : Exc) (kind : Kind) → Initiates e m s g (outcomes.Stopped code) m' s' g' → stop_text code (pc_of (state_of g')) ≡ (initiated_in kind (guest_of m.memory g) (initiate (guest_of m.memory g) e)).shown
  begin_stops e kind k = stop_shown kind (initiate (guest_of m.memory g) e) k.is

  alike : (x : Source) (y : Initiation) → IsInitiated y (outcomes.Stopped code) (standing m s g) (standing m' s' g') → (initiated_in Interrupt (guest_of m.memory g) y).shown ≡ (interrupted (guest_of m.memory g) x y).shown
  alike x (StopsGuest stop) b = refl
  alike x (Taken h frames) b = absurd b
  alike x (KernelStackBad h frames) b = absurd b

  pub interrupt_stops : (x : Source) (e : Exc) → e ≡ interrupt_of x → Initiates e m s g (outcomes.Stopped code) m' s' g' → stop_text code (pc_of (state_of g')) ≡ (interrupted (guest_of m.memory g) x (initiate (guest_of m.memory g) (interrupt_of x))).shown
  interrupt_stops x e is k =
      let start : Initiates (interrupt_of x) m s g (outcomes.Stopped code) m' s' g' = subst (λ y. Initiates y m s g (outcomes.Stopped code) m' s' g') is k in
      begin_stops (interrupt_of x) Interrupt start ∙ alike x (initiate (guest_of m.memory g) (interrupt_of x)) start.is

-- Where the guest goes on, nothing is shown.
module _ (kind : Kind) (m m' : Machine) (s s' : Shadowed) (g g' : GuestState) where
  pub record GoesOn (x : Initiation) : Type 0 where
    pub makes : MakesStep (initiated_in kind (guest_of m.memory g) x) m s g m' s' g'
    pub shown : [] ≡ (initiated_in kind (guest_of m.memory g) x).shown

  goes_on : (x : Initiation) (r : Initiated) → ((code : ℕ) → r ≢ outcomes.Stopped code) → IsInitiated x r (standing m s g) (standing m' s' g') → StandsFor m'.memory s' g' → HasPlace g.pages g.base g.start g' → OnlyGuest s m m' → GoesOn x
  goes_on (Taken h frames) outcomes.Taken n b stands place only = record { makes = record { guest = b.guest; drops = b.drops; stands = stands; place = place; only = only }; shown = refl }
  goes_on (KernelStackBad h frames) outcomes.KernelStackBad n b stands place only = record { makes = record { guest = b.guest; drops = b.drops; stands = stands; place = place; only = only }; shown = refl }
  goes_on x (outcomes.Stopped code) n b stands place only = absurd (n code refl)
  goes_on (Taken h frames) outcomes.KernelStackBad n b stands place only = absurd b
  goes_on (KernelStackBad h frames) outcomes.Taken n b stands place only = absurd b
  goes_on (StopsGuest stop) outcomes.Taken n b stands place only = absurd b
  goes_on (StopsGuest stop) outcomes.KernelStackBad n b stands place only = absurd b

  pub begins : (e : Exc) (r : Initiated) → ((code : ℕ) → r ≢ outcomes.Stopped code) → Initiates e m s g r m' s' g' → GoesOn (initiate (guest_of m.memory g) e)
  begins e r n k = goes_on (initiate (guest_of m.memory g) e) r n k.is k.stands k.place k.only

-- An interrupt is taken, and its request ends.
fits : (x : Source) → HasLevel x → LevelFits (interrupt_of x)
fits IntervalClock h = omega arith
fits Kcall h = omega arith
fits Receiver h = omega arith
fits Transmitter h = omega arith
fits (Software level) h = let small : level < 16 = h in omega arith

by_taken : (x : Initiation) (m m' : Machine) (s s' : Shadowed) (g g' : GuestState) → IsInitiated x outcomes.Taken (standing m s g) (standing m' s' g') → (h : Guest) × (frames : List ℕ) × (x ≡ Taken h frames) × InitiatesTo h frames s m' s' g'
by_taken (Taken h frames) m m' s s' g g' b = (h, frames, refl, b)
by_taken (KernelStackBad h frames) m m' s s' g g' b = absurd b
by_taken (StopsGuest stop) m m' s s' g g' b = absurd b

tables_stay : (x : Source) (s : State) → ((source_row x).taken s).tables ≡ s.tables
tables_stay IntervalClock s = refl
tables_stay Kcall s = refl
tables_stay Receiver s = refl
tables_stay Transmitter s = refl
tables_stay (Software level) s = refl

module _ (x : Source) (e : Exc) (m m' : Machine) (s s' : Shadowed) (g g' : GuestState) (is : e ≡ interrupt_of x) (start : Initiates e m s g outcomes.Taken m' s' g') (is_due : due (state_of g) ≡ Some x) where
  abbrev whole : Initiation
  whole = initiate (guest_of m.memory g) (interrupt_of x)

  taken_now : IsInitiated whole outcomes.Taken (standing m s g) (standing m' s' g')
  taken_now = subst (λ y. IsInitiated (initiate (guest_of m.memory g) y) outcomes.Taken (standing m s g) (standing m' s' g')) is start.is

  -- the requests of software levels are as before
  requests_stay : (state_of g').sisr ≡ (state_of g).sisr
  requests_stay =
      let b = by_taken whole m m' s s' g g' taken_now in
      let first : began.Initiates (guest_of m.memory g) (Taken b.0 b.1) = subst (began.Initiates (guest_of m.memory g)) b.2 (initiate_keeps (guest_of m.memory g) (interrupt_of x) (fits x (has_level (state_of g) x is_due))) in
      ap (λ (h : Guest). h.state.sisr) b.3.guest ∙ first.sisr

  pub request_stays : HasRequest (state_of g') x
  request_stays = has_request x (state_of g) (state_of g') is_due requests_stay

  module _ (g2 : GuestState) (state : state_of g2 ≡ (source_row x).taken (state_of g')) (place : HasPlace g'.pages g'.base g'.start g2) where
    ended_stands : StandsFor m'.memory s' g2
    ended_stands =
        let v = start.stands.serves in
        let size : 512 * g'.pages ≡ 512 * g2.pages = ap (λ n. 512 * n) (sym place.pages) in
        let keeps = taken_keeps (512 * g'.pages) x (state_of g) (state_of g') is_due requests_stay in
        record {
          keeps = start.stands.keeps;
          serves = record { pages = v.pages ∙ sym place.pages; base = v.base ∙ sym place.base; told = v.told ∙ sym (ap (λ (y : State). y.tables) state ∙ tables_stay x (state_of g')) };
          allowed = subst (λ n. AreAllowed n (state_of g2)) size (subst (AreAllowed (512 * g'.pages)) (sym state) (keeps.allowed start.stands.allowed));
        }

    ended_place : HasPlace g.pages g.base g.start g2
    ended_place = record { pages = place.pages ∙ start.place.pages; base = place.base ∙ start.place.base; start = place.start ∙ start.place.start }

    ended : (y : Initiation) → IsInitiated y outcomes.Taken (standing m s g) (standing m' s' g') → MakesStep (interrupted (guest_of m.memory g) x y) m s g m' s' g2
    ended (Taken h frames) b =
        let memory : partition_of m'.memory g2 ≡ h.memory = (λ i. part m'.memory (512 * place.base i) (512 * place.pages i)) ∙ ap (λ (y : Guest). y.memory) b.guest in
        let later : state_of g2 ≡ (source_row x).taken h.state = state ∙ ap (λ (y : Guest). (source_row x).taken y.state) b.guest in
        record { guest = λ i. record { memory = memory i; state = later i }; drops = b.drops; stands = ended_stands; place = ended_place; only = start.only }
    ended (KernelStackBad h frames) b = absurd b
    ended (StopsGuest stop) b = absurd b

    pub interrupt_taken : MakesStep (interrupted (guest_of m.memory g) x whole) m s g m' s' g2
    interrupt_taken = ended whole taken_now
