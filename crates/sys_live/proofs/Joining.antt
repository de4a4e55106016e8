-- Rounds that are made one after another, each with events of its own.
use Rattle.std.proofs.Common.{ℕ, zero, suc, ◌≡◌, ◌≢◌, ◌<◌, ◌≤◌, ◌+◌, ◌^◌, ◌==◌, List, [], ◌∷◌, ◌++◌, refl, sym, ◌∙◌, ap, subst, arith, append-nil, All, false}
use Rattle.std.proofs.lemmas.Bool.{ne_eqb}
use Rattle.std.proofs.lemmas.List.Elements.{All-head, All-tail, filter-append}
use Rattle.vax_hw.specs.Machine.{Machine}
use Rattle.vv_io.specs.Lines.{Seen}
use Rattle.sys_guests.specs.Changes.{Retires}
use Rattle.sys_objects.specs.declared.records.Config.{Config}
use Rattle.sys_objects.specs.declared.records.GuestRow.{GuestRow}
use Rattle.sys_state.proofs.Steps.{as_sum}
use Rattle.sys_state.specs.Counts.{added, round_tally, rounds_tally}
use Rattle.sys_state.specs.Events.{events}
use Rattle.sys_state.specs.FirstTouches.{touches_of_rounds}
use Rattle.sys_state.specs.Run.{events_of, round, rounds}
use Rattle.sys_state.specs.State.{SystemState, Went}
use Rattle.sys_state.specs.Transfers.{transfers}
use Rattle.sys_state.specs.Turns.{turns}
use Rattle.sys_runs.proofs.Many.{more_made, tally_in, touched_in}
use Rattle.sys_runs.specs.Rounds.{MakesRounds}
use Rattle.sys_script.specs.Events.{AreEvents, IsEvent, NeverFalls}
use Rattle.sys_script.specs.declared.event.Event.{Event}
use Rattle.sys_system.proofs.Paying.{pays_as}
use Rattle.sys_system.proofs.Rounding.{all_of}
use Rattle.sys_system.specs.Calls.{AreOf, LeadsToState, MakesRound}
use Rattle.sys_system.specs.System.{System, system_state}
use Rattle.vm_state.specs.Run.{Tally}
use Rattle.vm_state.specs.State.{Guest}
use Rattle.vm_state.specs.Touches.{Touching}
use Rattle.vm_stepping.specs.Made.{tally_of}

-- a round with these events, which are all its own
abbrev round_by : Config → ℕ → SystemState → List Event → Went SystemState
round_by c i s es =
    let begun = events c i s es in
    let turned = turns c begun.now in
    let ended = transfers c turned.now in
    record { now = ended.now; puts = begun.puts ++ turned.puts ++ ended.puts }

-- each of n rounds has the same events in both
abbrev pub AreAlike : ℕ → ℕ → List Event → List Event → Type 0
AreAlike i n es fs = (k : ℕ) → i ≤ k → k < i + n → events_of k es ≡ events_of k fs

alike_here : (i n : ℕ) (es fs : List Event) → AreAlike i (suc n) es fs → events_of i es ≡ events_of i fs
alike_here i n es fs same = same i (omega arith) (omega arith)

alike_later : (i n : ℕ) (es fs : List Event) → AreAlike i (suc n) es fs → AreAlike (suc i) n es fs
alike_later i n es fs same k from to = same k (omega (arith, from)) (omega (arith, to))

-- only the events of these rounds count
pub rounds_alike : (c : Config) (i n : ℕ) (es fs : List Event) (s : SystemState) → AreAlike i n es fs → rounds c i n es s ≡ rounds c i n fs s
rounds_alike c i zero es fs s same = refl
rounds_alike c i (suc n) es fs s same =
    let own : events_of i es ≡ events_of i fs = alike_here i n es fs same in
    let whole : Went SystemState → Went SystemState → Went SystemState = λ a b. record { now = b.now; puts = a.puts ++ b.puts } in
    let then : List Event → Went SystemState = λ these. whole (round_by c i s these) (rounds c (suc i) n es (round_by c i s these).now) in
    ap then own ∙ ap (whole (round c i fs s)) (rounds_alike c (suc i) n es fs (round c i fs s).now (alike_later i n es fs same))

tally_alike : (c : Config) (i n : ℕ) (es fs : List Event) (s : SystemState) → AreAlike i n es fs → rounds_tally c i n es s ≡ rounds_tally c i n fs s
tally_alike c i zero es fs s same = refl
tally_alike c i (suc n) es fs s same =
    let own : events_of i es ≡ events_of i fs = alike_here i n es fs same in
    let then : List Event → Tally = λ these. added (tally_in c i s these) (rounds_tally c (suc i) n es (round_by c i s these).now) in
    ap then own ∙ ap (added (tally_in c i s (events_of i fs))) (tally_alike c (suc i) n es fs (round c i fs s).now (alike_later i n es fs same))

touches_alike : (c : Config) (i n : ℕ) (es fs : List Event) (s : SystemState) (ts : List Touching) → AreAlike i n es fs → touches_of_rounds c i n es s ts ≡ touches_of_rounds c i n fs s ts
touches_alike c i zero es fs s ts same = refl
touches_alike c i (suc n) es fs s ts same =
    let own : events_of i es ≡ events_of i fs = alike_here i n es fs same in
    let then : List Event → List Touching = λ these. touches_of_rounds c (suc i) n es (round_by c i s these).now (touched_in c i s ts these) in
    ap then own ∙ touches_alike c (suc i) n es fs (round c i fs s).now (touched_in c i s ts (events_of i fs)) (alike_later i n es fs same)

module _ (n : ℕ) (es fs : List Event) (m m' : Machine) (s s' : System) (lines lines' : List Seen) (same : AreAlike (s.rounds + 1) n es fs) (r : MakesRounds n es m s lines m' s' lines') where
  abbrev st : SystemState
  st = system_state m.memory s

  went : rounds s.config (s.rounds + 1) n es st ≡ rounds s.config (s.rounds + 1) n fs st
  went = rounds_alike s.config (s.rounds + 1) n es fs st same

  tally : rounds_tally s.config (s.rounds + 1) n es st ≡ rounds_tally s.config (s.rounds + 1) n fs st
  tally = tally_alike s.config (s.rounds + 1) n es fs st same

  -- the rounds were made with the other events
  pub made_alike : MakesRounds n fs m s lines m' s' lines'
  made_alike = record {
    system = r.system;
    ended = r.ended;
    goes = subst (λ (w : Went SystemState). LeadsToState w m s lines m' s' lines') went r.goes;
    counts = r.counts ∙ ap (added (tally_of s.counts)) tally;
    retires = subst (λ (t : Tally). Retires m m' t) tally r.retires;
    pays = pays_as (touches_of_rounds s.config (s.rounds + 1) n es st) (touches_of_rounds s.config (s.rounds + 1) n fs st) m m' s.guests s'.guests (λ ts all. touches_alike s.config (s.rounds + 1) n es fs st ts same) r.pays;
  }

-- the trail of a round is a number of 64 bits
round_fits : (rows : List GuestRow) (gs : List Guest) → (round_tally rows gs).trail < 2 ^ 64
round_fits [] gs = omega arith
round_fits (row ∷ rows) [] = omega arith
round_fits (row ∷ rows) (g ∷ gs) = omega arith

module _ (es : List Event) (m m' : Machine) (s s' : System) (lines lines' : List Seen) (are : AreOf (s.rounds + 1) es) (r : MakesRounds 1 es m s lines m' s' lines') where
  abbrev now : SystemState
  now = system_state m.memory s

  abbrev alone : Went SystemState
  alone = round s.config (s.rounds + 1) es now

  whole : rounds s.config (s.rounds + 1) 1 es now ≡ alone
  whole = λ i. record { now = alone.now; puts = append-nil alone.puts i }

  own : events_of (s.rounds + 1) es ≡ es
  own = all_of (s.rounds + 1) es are

  sum : rounds_tally s.config (s.rounds + 1) 1 es now ≡ tally_in s.config (s.rounds + 1) now es
  sum =
      let all : Tally = tally_in s.config (s.rounds + 1) now (events_of (s.rounds + 1) es) in
      sym (as_sum all (round_fits s.config.guests (events s.config (s.rounds + 1) now (events_of (s.rounds + 1) es)).now.guests)) ∙ ap (tally_in s.config (s.rounds + 1) now) own

  -- the one round of these events
  pub one_made : MakesRound es m s lines m' s' lines'
  one_made = record {
    system = r.system;
    ended = r.ended;
    goes = subst (λ (w : Went SystemState). LeadsToState w m s lines m' s' lines') whole r.goes;
    counts = r.counts ∙ ap (added (tally_of s.counts)) sum;
    retires = subst (λ (t : Tally). Retires m m' t) sum r.retires;
    pays = r.pays;
  }

-- no event is of that round
abbrev pub NoneOf : ℕ → List Event → Type 0
NoneOf k es = All (λ e. e.round ≢ k) es

pub none_of : (k : ℕ) (es : List Event) → NoneOf k es → events_of k es ≡ []
none_of k [] none = refl
none_of k (e ∷ es) none =
    let other : (e.round == k) ≡ false = ne_eqb e.round k (All-head (λ (x : Event). x.round ≢ k) e es none) in
    rw other (none_of k es (All-tail (λ (x : Event). x.round ≢ k) e es none))

-- events of the rounds up to this one
abbrev pub AreUpTo : ℕ → List Event → Type 0
AreUpTo n es = All (λ e. e.round ≤ n) es

module _ (n : ℕ) (es these : List Event) (before : AreUpTo n es) (are : AreOf (n + 1) these) where
  -- the next round's events change nothing of the rounds before
  pub alike_before : AreAlike 1 n es (es ++ these)
  alike_before k from to =
      let none : events_of k these ≡ [] = none_of k these (λ i d within same. absurd (omega (arith, to, are i d within, same))) in
      sym (filter-append (λ (e : Event). e.round == k) es these ∙ ap (λ xs. events_of k es ++ xs) none ∙ append-nil (events_of k es))

  -- and are all of its own
  pub own_events : these ≡ events_of (n + 1) (es ++ these)
  own_events =
      let none : events_of (n + 1) es ≡ [] = none_of (n + 1) es (λ i d within same. absurd (omega (arith, before i d within, same))) in
      sym (filter-append (λ (e : Event). e.round == n + 1) es these ∙ ap (λ xs. xs ++ events_of (n + 1) these) none ∙ all_of (n + 1) these are)

-- one round more, with the events of that round
pub then_made : (n : ℕ) (es these : List Event) (m m1 m2 : Machine) (s s1 s2 : System) (lines lines1 lines2 : List Seen) → s.rounds ≡ 0 → AreUpTo n es → AreOf (n + 1) these
    → MakesRounds n es m s lines m1 s1 lines1 → MakesRounds 1 these m1 s1 lines1 m2 s2 lines2 → MakesRounds (n + 1) (es ++ these) m s lines m2 s2 lines2
then_made n es these m m1 m2 s s1 s2 lines lines1 lines2 fresh before are a b =
    let first : 1 ≡ s.rounds + 1 = omega (arith, fresh) in
    let made : n ≡ s.rounds + n = omega (arith, fresh) in
    let rounds1 : s1.rounds ≡ s.rounds + n = ap (λ (x : System). x.rounds) a.system in
    let at : n ≡ s1.rounds = made ∙ sym rounds1 in
    let all : MakesRounds n (es ++ these) m s lines m1 s1 lines1 = made_alike n es (es ++ these) m m1 s s1 lines lines1 (subst (λ k. AreAlike k n es (es ++ these)) first (alike_before n es these before are)) a in
    let one : MakesRound these m1 s1 lines1 m2 s2 lines2 = one_made these m1 m2 s1 s2 lines1 lines2 (subst (λ k. AreOf (k + 1) these) at are) b in
    more_made n (es ++ these) these m m1 m2 s s1 s2 lines lines1 lines2 all (subst (λ k. these ≡ events_of (k + 1) (es ++ these)) made (own_events n es these before are)) (subst (λ k. AreOf (k + 1) these) made are) one

-- events of one round never fall
never_falls : (r last : ℕ) (es : List Event) → last ≤ r → AreOf r es → NeverFalls last es
never_falls r last [] low are = tt
never_falls r last (e ∷ es) low are =
    let here : e.round ≡ r = All-head (λ (x : Event). x.round ≡ r) e es are in
    (omega (arith, low, here), never_falls r e.round es (omega (arith, here)) (All-tail (λ (x : Event). x.round ≡ r) e es are))

pub are_events : (r : ℕ) (es : List Event) → All IsEvent es → AreOf r es → AreEvents es
are_events r es each are = record { each = each; order = never_falls r 0 es (omega arith) are }

pub up_to_later : (n : ℕ) (es : List Event) → AreUpTo n es → AreUpTo (n + 1) es
up_to_later n es before = λ i d within. omega (arith, before i d within)
