-- What rounds from a moment on show and count.
use Rattle.std.proofs.Common.{ℕ, ◌≡◌, ◌≤◌, ◌+◌, ◌*◌, ◌%◌, ◌^◌, List, [], ◌++◌, map, replicate, slice_index_or, sym, ◌∙◌, ap, subst, arith, Bool, false}
use Rattle.vax_hw.specs.Machine.{Machine}
use Rattle.vv_io.specs.Lines.{Seen, unseen}
use Rattle.sys_guests.specs.Changes.{Retires}
use Rattle.sys_guests.specs.Layout.{guests_in}
use Rattle.sys_guests.specs.Loads.{MemoryAlone}
use Rattle.sys_guests.specs.Present.{HavePresent, counted_in}
use Rattle.sys_devices.proofs.Showings.{shows_same, shows_then}
use Rattle.sys_devices.specs.Shows.{Shows, ShowsUnlessMarked}
use Rattle.sys_state.proofs.Additions.{added_either}
use Rattle.sys_state.proofs.Steps.{as_sum}
use Rattle.sys_state.specs.Bytes.{dump_on, line_bytes_from, shown_from}
use Rattle.sys_state.specs.Counts.{added, tally_from}
use Rattle.sys_state.specs.FirstTouches.{first_touches_from, none_touched, touches_of_rounds}
use Rattle.sys_state.specs.Run.{Moment, moment_after, rounds_from}
use Rattle.sys_state.specs.State.{SystemState, Went, bytes_on}
use Rattle.sys_runs.proofs.Many.{rounds_fit}
use Rattle.sys_runs.proofs.Stored.{unmarked}
use Rattle.sys_runs.specs.Rounds.{MakesRounds}
use Rattle.sys_script.specs.declared.event.Event.{Event}
use Rattle.sys_system.specs.Powers.{IsAt}
use Rattle.sys_system.specs.System.{IsSystem, System, moment_of, system_state}
use Rattle.vm_simulation_laws.specs.Paid.{Misses}
use Rattle.vm_state.specs.Run.{Tally, no_steps}
use Rattle.vm_state.specs.Touches.{Touching}
use Rattle.vm_stepping.specs.Made.{steps_in, tally_of}
use Rattle.vm_stepping.specs.declared.counts.Counts.{Counts}

-- no line is marked at first
shows_fresh : (n : ℕ) (marks : List Bool) (lines lines' : List Seen) (f : ℕ → List ℕ) → Shows (replicate n false) marks lines lines' f → Shows [] marks lines lines' f
shows_fresh n marks lines lines' f shows = record {
  line = λ k. subst (λ b. ShowsUnlessMarked b (slice_index_or marks k false) (slice_index_or lines k unseen) (slice_index_or lines' k unseen) (f k)) (unmarked n k) (shows.line k);
  others = λ k none. ((shows.others k none).0 ∙ unmarked n k, (shows.others k none).1);
}

-- counts that are as before
retires_from : (m0 m1 m2 : Machine) (t : Tally) → m1.retired ≡ m0.retired → m1.trail ≡ m0.trail → Retires m1 m2 t → Retires m0 m2 t
retires_from m0 m1 m2 t retired trail r = record { retired = omega (arith, r.retired, retired); trail = omega (arith, r.trail, trail) }

module _ (m : Moment) (es : List Event) (n : ℕ) (m0 m1 m2 : Machine) (s0 s1 : System) (lines lines1 : List Seen) (p : IsAt m m1 s0) (alone : MemoryAlone m0 m1) (r : MakesRounds n es m1 s0 lines m2 s1 lines1) where
  config0 : s0.config ≡ m.config
  config0 = ap (λ (s : System). s.config) p.system

  rounds0 : s0.rounds ≡ m.made
  rounds0 = ap (λ (s : System). s.rounds) p.system

  pub config1 : s1.config ≡ m.config
  config1 = ap (λ (s : System). s.config) r.system ∙ config0

  -- the system begins at the moment
  begins : moment_of m1.memory s0 ≡ m
  begins = λ i. record { config = config0 i; made = rounds0 i; state = p.state i }

  went : rounds_from (moment_of m1.memory s0) es n ≡ rounds_from m es n
  went = ap (λ (k : Moment). rounds_from k es n) begins

  pub last : system_state m2.memory s1 ≡ (rounds_from m es n).now
  last = r.goes.state ∙ ap (λ (w : Went SystemState). w.now) went

  rounds1 : s1.rounds ≡ m.made + n
  rounds1 = ap (λ (s : System). s.rounds) r.system ∙ ap (λ k. k + n) rounds0

  -- n rounds later it is at that moment
  pub after : moment_of m2.memory s1 ≡ moment_after m es n
  after = λ i. record { config = config1 i; made = rounds1 i; state = last i }

  marks0 : s0.marks ≡ replicate 32 false
  marks0 = ap (λ (s : System). s.marks) p.system

  -- each line is shown what the rounds show
  pub rounds_shown : Shows [] s1.marks lines lines1 (λ k. shown_from m es n k)
  rounds_shown =
      let all : Shows s0.marks s1.marks lines lines1 (λ k. shown_from m es n k) = shows_same s0.marks s1.marks lines lines1 _ _ (λ k. ap (λ (w : Went SystemState). bytes_on k w.puts) went) r.goes.shows in
      shows_fresh 32 s1.marks lines lines1 _ (subst (λ before. Shows before s1.marks lines lines1 (λ k. shown_from m es n k)) marks0 all)

  bytes : (k : ℕ) → bytes_on k (rounds_from (moment_of m1.memory s0) es n).puts ++ dump_on k s1.config.guests (guests_in m2.memory s1.guests) ≡ line_bytes_from m es n k
  bytes k = λ i. bytes_on k (went i).puts ++ dump_on k (config1 i).guests (last i).guests

  -- each line gets its bytes
  pub shown : (marks : List Bool) (lines2 : List Seen) → Shows s1.marks marks lines1 lines2 (λ k. dump_on k s1.config.guests (guests_in m2.memory s1.guests)) → Shows [] marks lines lines2 (λ k. line_bytes_from m es n k)
  shown marks lines2 dumps =
      let all : Shows s0.marks marks lines lines2 (λ k. line_bytes_from m es n k) = shows_same s0.marks marks lines lines2 _ _ bytes (shows_then r.goes.shows dumps) in
      shows_fresh 32 marks lines lines2 _ (subst (λ before. Shows before marks lines lines2 (λ k. line_bytes_from m es n k)) marks0 all)

  tally : tally_from (moment_of m1.memory s0) es n ≡ tally_from m es n
  tally = ap (λ (k : Moment). tally_from k es n) begins

  -- the steps are those of these rounds
  pub counted : tally_of s1.counts ≡ tally_from m es n
  counted =
      let none : tally_of s0.counts ≡ no_steps = ap (λ (s : System). tally_of s.counts) p.system in
      let all = tally_from m es n in
      r.counts ∙ (λ i. added (none i) (tally i)) ∙ sym (added_either all) ∙ sym (as_sum all (rounds_fit m.config (m.made + 1) n es m.state))

  -- and few
  pub steps_few : (counts : Counts) → counts ≡ s1.counts → IsSystem s1 → steps_in counts ≤ 1600000 * (m.made + n)
  steps_few counts same holds =
      let few : steps_in s1.counts ≤ 1600000 * s1.rounds = omega (arith, holds.counted) in
      subst (λ k. steps_in counts ≤ 1600000 * k) rounds1 (subst (λ (x : Counts). steps_in x ≤ 1600000 * s1.rounds) (sym same) few)

  pub retired : Retires m0 m2 (tally_from m es n)
  retired =
      let retired : m1.retired ≡ m0.retired = ap (λ (k : Machine). k.retired) alone.rest in
      let trail : m1.trail ≡ m0.trail = ap (λ (k : Machine). k.trail) alone.rest in
      subst (λ (t : Tally). Retires m0 m2 t) tally (retires_from m0 m1 m2 (tally_from (moment_of m1.memory s0) es n) retired trail r.retires)

  -- what the machine missed
  pub all_missed : Misses r.pays.missed m0 m2
  all_missed =
      let same : m1.misses ≡ m0.misses = ap (λ (k : Machine). k.misses) alone.rest in
      subst (λ k. m2.misses % 2 ^ 64 ≡ (k + r.pays.missed) % 2 ^ 64) same r.pays.misses

  -- first touches count its misses, where nothing was present at first
  pub all_touched : HavePresent s0.guests (map none_touched (guests_in m1.memory s0.guests)) → r.pays.missed ≤ first_touches_from m es n
  all_touched present =
      let ts : List Touching = map none_touched (guests_in m1.memory s0.guests) in
      let all : counted_in ts + r.pays.missed ≤ counted_in (touches_of_rounds s0.config (s0.rounds + 1) n es (system_state m1.memory s0) ts) = r.pays.counts ts present in
      let same : counted_in (touches_of_rounds s0.config (s0.rounds + 1) n es (system_state m1.memory s0) ts) ≡ first_touches_from m es n = ap (λ (k : Moment). first_touches_from k es n) begins in
      omega (arith, all, same)

  -- no drive was marked
  pub no_drives : s1.drives ≡ replicate 16 false
  no_drives = ap (λ (s : System). s.drives) r.system ∙ ap (λ (s : System). s.drives) p.system
