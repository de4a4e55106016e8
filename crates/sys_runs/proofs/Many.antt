-- Rounds that are made one after another.
use Rattle.std.proofs.Common.{ℕ, zero, suc, ◌≡◌, ◌<◌, ◌≤◌, ◌+◌, ◌^◌, List, ◌++◌, refl, sym, ◌∙◌, ap, subst, arith, append_assoc, append-nil, false}
use Rattle.vax_hw.specs.Machine.{Machine}
use Rattle.vv_io.specs.Lines.{Seen}
use Rattle.sys_guests.specs.Changes.{Retires}
use Rattle.sys_guests.specs.Layout.{end_of_guests}
use Rattle.sys_guests.specs.Present.{PaysAll}
use Rattle.sys_devices.proofs.Showings.{shows_none, shows_same, shows_then}
use Rattle.sys_objects.specs.declared.records.Config.{Config}
use Rattle.sys_state.proofs.Additions.{added_either, added_twice}
use Rattle.sys_state.proofs.Consoles.{bytes_append}
use Rattle.sys_state.proofs.Steps.{as_sum}
use Rattle.sys_state.specs.Counts.{added, round_tally, rounds_tally}
use Rattle.sys_state.specs.Events.{events}
use Rattle.sys_state.specs.FirstTouches.{touches_of_events, touches_of_round, touches_of_rounds, touches_of_transfers, touches_of_turns}
use Rattle.sys_state.specs.Run.{events_of, round, rounds}
use Rattle.sys_state.specs.State.{SystemState, Went, bytes_on}
use Rattle.sys_state.specs.Transfers.{transfers}
use Rattle.sys_state.specs.Turns.{turns}
use Rattle.sys_runs.specs.Rounds.{MakesRounds}
use Rattle.sys_script.specs.declared.event.Event.{Event}
use Rattle.sys_system.proofs.Paying.{pays_as, pays_kept, pays_then}
use Rattle.sys_system.proofs.Rounding.{all_of}
use Rattle.sys_system.proofs.Slicing.{retires_then}
use Rattle.sys_system.specs.Calls.{AreOf, MakesRound}
use Rattle.sys_system.specs.System.{IsInMachine, System, system_state}
use Rattle.vm_state.specs.Run.{Tally, no_steps}
use Rattle.vm_state.specs.Touches.{Touching}
use Rattle.vm_stepping.specs.Made.{tally_of}

-- a round with these events, which are all its own
abbrev round_by : Config → ℕ → SystemState → List Event → Went SystemState
round_by c i s es =
    let begun = events c i s es in
    let turned = turns c begun.now in
    let ended = transfers c turned.now in
    record { now = ended.now; puts = begun.puts ++ turned.puts ++ ended.puts }

-- the steps of a round
abbrev pub tally_in : Config → ℕ → SystemState → List Event → Tally
tally_in c i s es = round_tally c.guests (events c i s es).now.guests

-- its first touches
abbrev pub touched_in : Config → ℕ → SystemState → List Touching → List Event → List Touching
touched_in c i s ts es =
    let begun = (events c i s es).now in
    let turned = (turns c begun).now in
    touches_of_transfers c c.guests turned.mounts turned.guests turned.volumes
    (touches_of_turns c.guests begun.guests (touches_of_events c i s es ts))

-- one after another
abbrev joined : Went SystemState → Went SystemState → Went SystemState
joined a b = record { now = b.now; puts = a.puts ++ b.puts }

-- one round more is made after the others
pub rounds_more : (c : Config) (i n : ℕ) (es : List Event) (s : SystemState) → rounds c i (suc n) es s ≡ joined (rounds c i n es s) (round c (i + n) es (rounds c i n es s).now)
rounds_more c i zero es s =
    let same : i + 0 ≡ i = omega arith in
    let first = round c i es s in
    (λ j. record { now = first.now; puts = append-nil first.puts j }) ∙ ap (λ k. joined (rounds c i zero es s) (round c k es s)) (sym same)
rounds_more c i (suc n) es s =
    let same : suc i + n ≡ i + suc n = omega arith in
    let first = round c i es s in
    let rest = rounds c (suc i) n es first.now in
    let last : ℕ → Went SystemState = λ k. round c k es rest.now in
    ap (joined first) (rounds_more c (suc i) n es first.now)
    ∙ (λ j. record { now = (last (suc i + n)).now; puts = sym (append_assoc first.puts rest.puts (last (suc i + n)).puts) j })
    ∙ ap (λ k. joined (joined first rest) (last k)) same

pub tally_more : (c : Config) (i n : ℕ) (es : List Event) (s : SystemState) → rounds_tally c i (suc n) es s ≡ added (rounds_tally c i n es s) (tally_in c (i + n) (rounds c i n es s).now (events_of (i + n) es))
tally_more c i zero es s =
    let same : i + 0 ≡ i = omega arith in
    added_either (tally_in c i s (events_of i es)) ∙ ap (λ k. added no_steps (tally_in c k s (events_of k es))) (sym same)
tally_more c i (suc n) es s =
    let same : suc i + n ≡ i + suc n = omega arith in
    let first = tally_in c i s (events_of i es) in
    let now = (round c i es s).now in
    let rest = rounds_tally c (suc i) n es now in
    let last : ℕ → Tally = λ k. tally_in c k (rounds c (suc i) n es now).now (events_of k es) in
    ap (added first) (tally_more c (suc i) n es now) ∙ sym (added_twice first rest (last (suc i + n))) ∙ ap (λ k. added (added first rest) (last k)) same

touches_more : (c : Config) (i n : ℕ) (es : List Event) (s : SystemState) (ts : List Touching) → touches_of_rounds c i (suc n) es s ts ≡ touches_of_round c (i + n) es (rounds c i n es s).now (touches_of_rounds c i n es s ts)
touches_more c i zero es s ts =
    let same : i + 0 ≡ i = omega arith in
    ap (λ k. touches_of_round c k es s ts) (sym same)
touches_more c i (suc n) es s ts =
    let same : suc i + n ≡ i + suc n = omega arith in
    let now = (round c i es s).now in
    let first = touches_of_round c i es s ts in
    touches_more c (suc i) n es now first ∙ ap (λ k. touches_of_round c k es (rounds c (suc i) n es now).now (touches_of_rounds c (suc i) n es now first)) same

-- the trail of the rounds is a number of 64 bits
pub rounds_fit : (c : Config) (i n : ℕ) (es : List Event) (s : SystemState) → (rounds_tally c i n es s).trail < 2 ^ 64
rounds_fit c i zero es s = omega arith
rounds_fit c i (suc n) es s = omega arith

-- no round is made
pub none_made : (es : List Event) (m : Machine) (s : System) (lines : List Seen) → s.turns.is_begun ≡ false → s.counts.trail < 2 ^ 64 → IsInMachine m.memory s → MakesRounds 0 es m s lines m s lines
none_made es m s lines rests fits stands =
    let same : s.rounds ≡ s.rounds + 0 = omega arith in
    record {
      system = λ j. record s { rounds = same j };
      ended = rests;
      goes = record { state = refl; shows = shows_none s.marks lines; stands = stands; only = λ q later. refl; size = refl };
      counts = as_sum (tally_of s.counts) fits;
      retires = record { retired = omega arith; trail = omega arith };
      pays = pays_kept (λ ts. ts) m m s.guests s.guests refl (λ ts all. refl) (λ ts all. all);
    }

module _ (n : ℕ) (es these : List Event) (m m1 m2 : Machine) (s s1 s2 : System) (lines lines1 lines2 : List Seen) (a : MakesRounds n es m s lines m1 s1 lines1) (same : these ≡ events_of ((s.rounds + n) + 1) es) (are : AreOf ((s.rounds + n) + 1) these) (b : MakesRound these m1 s1 lines1 m2 s2 lines2) where
  abbrev c : Config
  c = s.config

  abbrev st : SystemState
  st = system_state m.memory s

  -- the first of the rounds, and the last
  abbrev from : ℕ
  from = s.rounds + 1

  abbrev to : ℕ
  to = (s.rounds + n) + 1

  abbrev before : Went SystemState
  before = rounds c from n es st

  config1 : s1.config ≡ c
  config1 = ap (λ (x : System). x.config) a.system

  rounds1 : s1.rounds + 1 ≡ to
  rounds1 = ap (λ (x : System). x.rounds + 1) a.system

  place : to ≡ from + n
  place = omega arith

  next : n + 1 ≡ suc n
  next = omega arith

  -- the round that is made is the next of the definition
  own : events_of to these ≡ events_of to es
  own = all_of to these are ∙ same

  last : round s1.config (s1.rounds + 1) these (system_state m1.memory s1) ≡ round c (from + n) es before.now
  last =
      (λ j. round (config1 j) (rounds1 j) these (a.goes.state j))
      ∙ ap (round_by c to before.now) own
      ∙ ap (λ k. round c k es before.now) place

  whole : joined before (round s1.config (s1.rounds + 1) these (system_state m1.memory s1)) ≡ rounds c from (n + 1) es st
  whole = ap (joined before) last ∙ sym (rounds_more c from n es st) ∙ ap (λ k. rounds c from k es st) (sym next)

  tally : tally_in s1.config (s1.rounds + 1) (system_state m1.memory s1) these ≡ tally_in c (from + n) before.now (events_of (from + n) es)
  tally =
      (λ j. tally_in (config1 j) (rounds1 j) (a.goes.state j) these)
      ∙ ap (tally_in c to before.now) same
      ∙ ap (λ k. tally_in c k before.now (events_of k es)) place

  sums : added (rounds_tally c from n es st) (tally_in s1.config (s1.rounds + 1) (system_state m1.memory s1) these) ≡ rounds_tally c from (n + 1) es st
  sums = ap (added (rounds_tally c from n es st)) tally ∙ sym (tally_more c from n es st) ∙ ap (λ k. rounds_tally c from k es st) (sym next)

  counts : tally_of s2.counts ≡ added (tally_of s.counts) (rounds_tally c from (n + 1) es st)
  counts =
      b.counts ∙ ap (λ t. added t (tally_in s1.config (s1.rounds + 1) (system_state m1.memory s1) these)) a.counts
      ∙ added_twice (tally_of s.counts) (rounds_tally c from n es st) (tally_in s1.config (s1.rounds + 1) (system_state m1.memory s1) these)
      ∙ ap (added (tally_of s.counts)) sums

  retired : Retires m m2 (added (rounds_tally c from n es st) (tally_in s1.config (s1.rounds + 1) (system_state m1.memory s1) these))
  retired = retires_then m m1 m2 (rounds_tally c from n es st) (tally_in s1.config (s1.rounds + 1) (system_state m1.memory s1) these) a.retires b.retires

  config2 : s2.config ≡ c
  config2 = ap (λ (x : System). x.config) b.system ∙ config1

  rounds2 : s2.rounds ≡ s.rounds + (n + 1)
  rounds2 =
      let more : to ≡ s.rounds + (n + 1) = omega arith in
      ap (λ (x : System). x.rounds) b.system ∙ rounds1 ∙ more

  drives2 : s2.drives ≡ s.drives
  drives2 = ap (λ (x : System). x.drives) b.system ∙ ap (λ (x : System). x.drives) a.system

  bytes : (k : ℕ) → bytes_on k before.puts ++ bytes_on k (round s1.config (s1.rounds + 1) these (system_state m1.memory s1)).puts ≡ bytes_on k (rounds c from (n + 1) es st).puts
  bytes k = sym (bytes_append k before.puts (round s1.config (s1.rounds + 1) these (system_state m1.memory s1)).puts) ∙ ap (λ (w : Went SystemState). bytes_on k w.puts) whole

  touched : (ts : List Touching) → touches_of_round s1.config (s1.rounds + 1) these (system_state m1.memory s1) (touches_of_rounds c from n es st ts) ≡ touches_of_rounds c from (n + 1) es st ts
  touched ts =
      let us : List Touching = touches_of_rounds c from n es st ts in
      (λ j. touches_of_round (config1 j) (rounds1 j) these (a.goes.state j) us)
      ∙ ap (touched_in c to before.now us) own
      ∙ ap (λ k. touches_of_round c k es before.now us) place
      ∙ sym (touches_more c from n es st ts) ∙ ap (λ k. touches_of_rounds c from k es st ts) (sym next)

  pays : PaysAll (touches_of_rounds c from (n + 1) es st) m s.guests m2 s2.guests
  pays =
      let first : List Touching → List Touching = touches_of_rounds c from n es st in
      let last : List Touching → List Touching = touches_of_round s1.config (s1.rounds + 1) these (system_state m1.memory s1) in
      pays_as (λ ts. last (first ts)) (touches_of_rounds c from (n + 1) es st) m m2 s.guests s2.guests (λ ts all. touched ts) (pays_then first last m m1 m2 s.guests s1.guests s2.guests a.pays b.pays)

  -- one round more
  pub more_made : MakesRounds (n + 1) es m s lines m2 s2 lines2
  more_made = record {
    system = λ j. record { config = config2 j; connected = s2.connected; mounts = s2.mounts; guests = s2.guests; volumes = s2.volumes; turns = s2.turns; rounds = rounds2 j; counts = s2.counts; marks = s2.marks; drives = drives2 j };
    ended = b.ended;
    goes = record {
      state = b.goes.state ∙ ap (λ (w : Went SystemState). w.now) whole;
      shows = shows_same s.marks s2.marks lines lines2 _ _ bytes (shows_then a.goes.shows b.goes.shows);
      stands = b.goes.stands;
      only = λ q later. b.goes.only q (subst (λ (y : Config). end_of_guests y.guests ≤ q) (sym config1) later) ∙ a.goes.only q later;
      size = b.goes.size ∙ a.goes.size;
    };
    counts = counts;
    retires = subst (λ (t : Tally). Retires m m2 t) sums retired;
    pays = pays;
  }
