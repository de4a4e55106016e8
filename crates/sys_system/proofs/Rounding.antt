-- A whole round: its events, the guests' turns in slices, its transfers.
use Rattle.std.proofs.Common.{ℕ, suc, ◌≡◌, ◌≤◌, ◌+◌, ◌==◌, List, [], ◌∷◌, ◌++◌, length, refl, sym, ◌∙◌, ap, subst, arith, true}
use Rattle.std.proofs.lemmas.Bool.{eq-eqb}
use Rattle.std.proofs.lemmas.List.{length-map}
use Rattle.std.specs.List.{sum_by}
use Rattle.sys_guests.proofs.LaidOut.{placed_long}
use Rattle.sys_objects.specs.Condition.{IsConfig}
use Rattle.sys_objects.specs.declared.records.GuestRow.{GuestRow}
use Rattle.sys_transfers.proofs.Rounds.{touches_long}
use Rattle.vax_hw.specs.Machine.{Machine}
use Rattle.vv_io.specs.Lines.{Seen}
use Rattle.sys_guests.specs.Changes.{Retires}
use Rattle.sys_guests.specs.Layout.{end_of_guests, guests_in}
use Rattle.sys_guests.specs.Present.{HavePresent, KeepsAll, PaysAll}
use Rattle.sys_devices.proofs.Showings.{shows_same, shows_then}
use Rattle.sys_objects.specs.declared.records.Config.{Config}
use Rattle.sys_system.proofs.Paying.{counted_events, counted_transfers, pays_as, pays_kept, pays_then}
use Rattle.sys_system.proofs.Playing.{quanta_taken}
use Rattle.sys_system.specs.Calls.{AreOf, BeginsRound, EndsRound, MakesRound, Plays}
use Rattle.sys_system.specs.System.{IsInMachine, NoneLeft, System, all_turns, system_state}
use Rattle.sys_state.proofs.Consoles.{bytes_append}
use Rattle.sys_state.proofs.Schedules.{any_schedule}
use Rattle.sys_state.proofs.SlicedRound.{any_round}
use Rattle.sys_state.proofs.SlicedTouches.{same_touches}
use Rattle.sys_state.specs.Counts.{added, round_tally, slices_tally}
use Rattle.sys_state.specs.Events.{events}
use Rattle.sys_state.specs.FirstTouches.{touches_of_events, touches_of_round, touches_of_transfers, touches_of_turns}
use Rattle.sys_state.specs.Run.{events_of, round}
use Rattle.sys_state.specs.SlicedRound.{IsTheRound}
use Rattle.sys_state.specs.SlicedTouches.{touches_of_slices}
use Rattle.sys_state.specs.Slices.{AreQuanta, Slice, slices}
use Rattle.sys_state.specs.State.{Put, SystemState, Went, bytes_on}
use Rattle.sys_state.specs.Transfers.{transfers}
use Rattle.sys_state.specs.Turns.{turns}
use Rattle.sys_script.specs.declared.event.Event.{Event}
use Rattle.vm_guest.specs.Kept.{Kept}
use Rattle.vm_state.specs.Run.{Tally}
use Rattle.vm_state.specs.State.{Guest}
use Rattle.vm_state.specs.Touches.{Touching}
use Rattle.vm_stepping.specs.Made.{tally_of}

-- events of one round are all of that round's
pub all_of : (i : ℕ) (es : List Event) → AreOf i es → events_of i es ≡ es
all_of i [] are = refl
all_of i (e ∷ es) are =
    let here : (e.round == i) ≡ true = eq-eqb e.round i (are 0 e (omega arith)) in
    rw here (ap (λ (xs : List Event). e ∷ xs) (all_of i es (λ k d h. are (suc k) d (omega (arith, h)))))

-- slices after events, and transfers after them
abbrev after_slices : Config → List Slice → Went SystemState → Went SystemState
after_slices c xs begun =
    let turned = slices c.terminals begun.now.connected xs begun.now.guests in
    let ended = transfers c (record begun.now { guests = turned.now }) in
    record { now = ended.now; puts = begun.puts ++ turned.puts ++ ended.puts }

module _ (es : List Event) (xs : List Slice) (m m1 m2 m3 : Machine) (s s1 s2 s3 : System) (lines lines1 lines2 lines3 : List Seen) (accepted : IsConfig s.config) (stands : IsInMachine m.memory s) (are : AreOf (s.rounds + 1) es) (b : BeginsRound es m s lines m1 s1 lines1) (p : Plays xs m1 s1 lines1 m2 s2 lines2) (none : NoneLeft s2.turns.left) (e : EndsRound m2 s2 lines2 m3 s3 lines3)
    (keeps : KeepsAll (touches_of_events s.config (s.rounds + 1) (system_state m.memory s) es) s.guests s1.guests) (units : length s2.mounts ≡ length s2.config.guests)
    (leaves : KeepsAll (touches_of_transfers s2.config s2.config.guests s2.mounts (guests_in m2.memory s2.guests) s2.volumes) s2.guests s3.guests) where
  abbrev c : Config
  c = s.config

  abbrev i : ℕ
  i = s.rounds + 1

  abbrev st : SystemState
  st = system_state m.memory s

  abbrev begun : Went SystemState
  begun = events c i st es

  abbrev turned : Went (List Guest)
  turned = slices c.terminals begun.now.connected xs begun.now.guests

  config1 : s1.config ≡ c
  config1 = ap (λ (x : System). x.config) b.system

  config2 : s2.config ≡ c
  config2 = ap (λ (x : System). x.config) p.system ∙ config1

  config3 : s3.config ≡ c
  config3 = ap (λ (x : System). x.config) e.system ∙ config2

  rounds3 : s3.rounds ≡ s.rounds + 1
  rounds3 = ap (λ (x : System). x.rounds) e.system ∙ ap (λ (x : System). x.rounds) p.system ∙ ap (λ (x : System). x.rounds) b.system

  drives3 : s3.drives ≡ s.drives
  drives3 = ap (λ (x : System). x.drives) e.system ∙ ap (λ (x : System). x.drives) p.system ∙ ap (λ (x : System). x.drives) b.system

  first : s1.turns ≡ all_turns s1.config.guests
  first = ap (λ (x : System). x.turns) b.system ∙ ap (λ (y : Config). all_turns y.guests) (sym config1)

  quanta : AreQuanta xs 0 c.guests
  quanta = subst (λ (y : Config). AreQuanta xs 0 y.guests) config1 (quanta_taken xs m1 m2 s1 s2 lines1 lines2 first p none)

  is_turned : slices s1.config.terminals s1.connected xs (guests_in m1.memory s1.guests) ≡ turned
  is_turned = λ j. slices (config1 j).terminals (b.goes.state j).connected xs (b.goes.state j).guests

  state2 : system_state m2.memory s2 ≡ record begun.now { guests = turned.now }
  state2 =
      let same : system_state m2.memory s2 ≡ record (system_state m1.memory s1) { guests = (slices s1.config.terminals s1.connected xs (guests_in m1.memory s1.guests)).now } = λ j. record { connected = (p.system j).connected; mounts = (p.system j).mounts; guests = p.guests j; volumes = (p.system j).volumes } in
      same ∙ (λ j. record (b.goes.state j) { guests = (is_turned j).now })

  state3 : system_state m3.memory s3 ≡ (after_slices c xs begun).now
  state3 = e.goes.state ∙ (λ j. (transfers (config2 j) (state2 j)).now)

  ended_puts : (transfers s2.config (system_state m2.memory s2)).puts ≡ (transfers c (record begun.now { guests = turned.now })).puts
  ended_puts = λ j. (transfers (config2 j) (state2 j)).puts

  shown : (k : ℕ) → (bytes_on k begun.puts ++ bytes_on k (slices s1.config.terminals s1.connected xs (guests_in m1.memory s1.guests)).puts) ++ bytes_on k (transfers s2.config (system_state m2.memory s2)).puts ≡ bytes_on k (after_slices c xs begun).puts
  shown k =
      let last : List Put = (transfers c (record begun.now { guests = turned.now })).puts in
      (λ j. (bytes_on k begun.puts ++ bytes_on k (is_turned j).puts) ++ bytes_on k (ended_puts j))
      ∙ sym (bytes_append k (begun.puts ++ turned.puts) last ∙ ap (λ (ys : List ℕ). ys ++ bytes_on k last) (bytes_append k begun.puts turned.puts))

  of : events_of i es ≡ es
  of = all_of i es are

  same : IsTheRound c i es xs st
  same = any_round c i es xs st accepted (length-map s.guests (λ (k : Kept). _) ∙ placed_long 0 (sum_by (λ (row : GuestRow). row.pages) c.guests) c.guests s.guests stands.laid_out) quanta

  -- the code's round is the definition's
  whole_now : (after_slices c xs begun).now ≡ (round c i es st).now
  whole_now = ap (λ (ys : List Event). (after_slices c xs (events c i st ys)).now) (sym of) ∙ same.now

  whole_bytes : (k : ℕ) → bytes_on k (after_slices c xs begun).puts ≡ bytes_on k (round c i es st).puts
  whole_bytes k = ap (λ (ys : List Event). bytes_on k (after_slices c xs (events c i st ys)).puts) (sym of) ∙ same.bytes k

  tally : slices_tally xs (guests_in m1.memory s1.guests) ≡ round_tally c.guests begun.now.guests
  tally =
      ap (λ (y : SystemState). slices_tally xs y.guests) b.goes.state
      ∙ ap (λ (ys : List Event). slices_tally xs (events c i st ys).now.guests) (sym of) ∙ same.counts
      ∙ ap (λ (ys : List Event). round_tally c.guests (events c i st ys).now.guests) of

  retires : Retires m m3 (slices_tally xs (guests_in m1.memory s1.guests))
  retires =
      let first : m1.retired ≡ m.retired = ap (λ (x : Machine). x.retired) b.machine in
      let first' : m1.trail ≡ m.trail = ap (λ (x : Machine). x.trail) b.machine in
      let last : m3.retired ≡ m2.retired = ap (λ (x : Machine). x.retired) e.machine in
      let last' : m3.trail ≡ m2.trail = ap (λ (x : Machine). x.trail) e.machine in
      record { retired = omega (arith, p.retires.retired, first, last); trail = omega (arith, p.retires.trail, first', last') }

  -- first touches count what is missed in the slices
  begun_long : length begun.now.guests ≡ length s1.guests
  begun_long = ap (λ (y : SystemState). length y.guests) (sym b.goes.state) ∙ length-map s1.guests (λ (k : Kept). _)

  rows_long : length begun.now.guests ≡ length c.guests
  rows_long = begun_long ∙ placed_long 0 (sum_by (λ (row : GuestRow). row.pages) s1.config.guests) s1.config.guests s1.guests b.goes.stands.laid_out ∙ ap (λ (y : Config). length y.guests) config1

  turns_same : record begun.now { guests = turned.now } ≡ (turns c begun.now).now
  turns_same = ap (λ (gs : List Guest). record begun.now { guests = gs }) (any_schedule c begun.now xs accepted rows_long quanta).0

  whole_state : system_state m2.memory s2 ≡ (turns c begun.now).now
  whole_state = state2 ∙ turns_same

  abbrev moved : Config → SystemState → List Touching → List Touching
  moved y x ts = touches_of_transfers y y.guests x.mounts x.guests x.volumes ts

  abbrev touched : List Touching → List Touching
  touched ts = moved s2.config (system_state m2.memory s2) (touches_of_slices xs (guests_in m1.memory s1.guests) (touches_of_events c i st es ts))

  touches_same : (ts : List Touching) → HavePresent s.guests ts → touched ts ≡ touches_of_round c i es st ts
  touches_same ts all =
      let us : List Touching = touches_of_events c i st es ts in
      let long : length us ≡ length begun.now.guests = touches_long s1.guests us (keeps ts all) ∙ sym begun_long in
      let middle : touches_of_slices xs (guests_in m1.memory s1.guests) us ≡ touches_of_turns c.guests begun.now.guests us = ap (λ (y : SystemState). touches_of_slices xs y.guests us) b.goes.state ∙ same_touches c.guests begun.now.guests xs us rows_long long quanta in
      let last : List Event → List Touching = λ ys. moved c (turns c (events c i st ys).now).now (touches_of_turns c.guests (events c i st ys).now.guests (touches_of_events c i st ys ts)) in
      (λ j. moved (config2 j) (whole_state j) (middle j)) ∙ ap last (sym of)

  pays : PaysAll (touches_of_round c i es st) m s.guests m3 s3.guests
  pays =
      let begin : PaysAll (touches_of_events c i st es) m s.guests m1 s1.guests = pays_kept (touches_of_events c i st es) m m1 s.guests s1.guests (ap (λ (x : Machine). x.misses) b.machine) (λ ts all. counted_events c i st es ts) keeps in
      let gs2 : List Guest = guests_in m2.memory s2.guests in
      let long2 : length gs2 ≡ length s2.guests = length-map s2.guests (λ (k : Kept). _) in
      let rows2 : length s2.guests ≡ length s2.config.guests = placed_long 0 (sum_by (λ (row : GuestRow). row.pages) s2.config.guests) s2.config.guests s2.guests p.stands.laid_out in
      let end : PaysAll (moved s2.config (system_state m2.memory s2)) m2 s2.guests m3 s3.guests = pays_kept (moved s2.config (system_state m2.memory s2)) m2 m3 s2.guests s3.guests (ap (λ (x : Machine). x.misses) e.machine)
      (λ ts all. counted_transfers s2.config s2.config.guests s2.mounts gs2 s2.volumes ts units (long2 ∙ rows2) (touches_long s2.guests ts all ∙ sym long2)) leaves in
      let begun1 = touches_of_events c i st es in
      let sliced1 = touches_of_slices xs (guests_in m1.memory s1.guests) in
      pays_as touched (touches_of_round c i es st) m m3 s.guests s3.guests touches_same
      (pays_then (λ ts. sliced1 (begun1 ts)) (moved s2.config (system_state m2.memory s2)) m m2 m3 s.guests s2.guests s3.guests (pays_then begun1 sliced1 m m1 m2 s.guests s1.guests s2.guests begin p.pays) end)

  pub round_made : MakesRound es m s lines m3 s3 lines3
  round_made = record {
    system = λ j. record { config = config3 j; connected = s3.connected; mounts = s3.mounts; guests = s3.guests; volumes = s3.volumes; turns = s3.turns; rounds = rounds3 j; counts = s3.counts; marks = s3.marks; drives = drives3 j };
    ended = ap (λ (x : System). x.turns.is_begun) e.system;
    goes = record {
      state = state3 ∙ whole_now;
      shows = shows_same s.marks s3.marks lines lines3 _ _ (λ k. shown k ∙ whole_bytes k) (shows_then (shows_then b.goes.shows p.shows) e.goes.shows);
      stands = e.goes.stands;
      only = λ q later.
          e.goes.only q (subst (λ (y : Config). end_of_guests y.guests ≤ q) (sym config2) later)
          ∙ p.only q (subst (λ (y : Config). end_of_guests y.guests ≤ q) (sym config1) later)
          ∙ b.goes.only q later;
      size = e.goes.size ∙ p.size ∙ b.goes.size;
    };
    counts = ap (λ (x : System). tally_of x.counts) e.system ∙ p.counts ∙ ap (λ (x : System). added (tally_of x.counts) (slices_tally xs (guests_in m1.memory s1.guests))) b.system ∙ ap (added (tally_of s.counts)) tally;
    retires = subst (λ (t : Tally). Retires m m3 t) tally retires;
    pays = pays;
  }
