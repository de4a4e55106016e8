-- A run whose last moment is shown.
use Rattle.std.proofs.Common.{ℕ, ◌≡◌, ◌≤◌, ◌+◌, List, length, map, refl, sym, ◌∙◌, ap, subst, arith, false, All, IfOk, Result, Ok, Err}
use Rattle.sys_runs.specs.Besides.{MissesArePaid}
use Rattle.std.proofs.lemmas.Bool.{true≢false}
use Rattle.std.specs.Result.{is_err}
use Rattle.vax_hw.specs.Machine.{Machine}
use Rattle.vv_io.specs.Blocks.{SeenDrive}
use Rattle.vv_io.specs.Lines.{Seen}
use Rattle.sys_guests.specs.Layout.{guests_in}
use Rattle.sys_guests.specs.Loads.{MemoryAlone}
use Rattle.sys_guests.specs.Present.{HavePresent}
use Rattle.sys_devices.specs.Rows.{FitsDrive}
use Rattle.sys_devices.specs.ShownSince.{ShownSince}
use Rattle.sys_moment_laws.proofs.Stands.{rounds_keep_right}
use Rattle.sys_moment_laws.specs.ConsistentState.{IsConsistentState}
use Rattle.sys_objects.specs.declared.records.Config.{Config}
use Rattle.sys_state.specs.FirstTouches.{none_touched}
use Rattle.sys_state.specs.Run.{Moment, first_moment, moment_after}
use Rattle.sys_runs.proofs.Made.{after, all_missed, all_touched, no_drives, retired, rounds_shown}
use Rattle.sys_runs.proofs.Moments.{HasBlocks, is_moment}
use Rattle.sys_runs.specs.Rounds.{MakesRounds}
use Rattle.sys_runs.specs.Saved.{Saves, SavesFrom}
use Rattle.sys_runs.specs.declared.saving.Saved.{Saved}
use Rattle.sys_script.specs.declared.event.Event.{Event}
use Rattle.sys_snap.specs.Snap.{IsMoment, IsSound}
use Rattle.sys_snap.specs.Written.{snap_bytes}
use Rattle.sys_system.specs.Devices.{first_failed}
use Rattle.sys_system.specs.Faults.{HasPower}
use Rattle.sys_system.specs.Powers.{IsAt}
use Rattle.sys_system.specs.System.{IsSystem, System, moment_of}
use Rattle.vm_state.specs.State.{state_of as registers_of}

-- what holds where all was shown
pub where_whole : {T E : Type 0} (P : Type 0) (r : Result T E) → IfOk r (λ _. P) → is_err r ≡ false → P
where_whole P (Ok x) holds whole = holds
where_whole P (Err e) holds whole = absurd (true≢false whole)

module _ (m : Moment) (es : List Event) (n : ℕ) (m0 m1 m2 : Machine) (s0 s1 : System) (lines lines1 : List Seen) (drives : List SeenDrive) (right : IsConsistentState m.config m.state) (fit : All (FitsDrive drives) m.config.volumes) (p : IsAt m m1 s0) (alone : MemoryAlone m0 m1) (r : MakesRounds n es m1 s0 lines m2 s1 lines1) where
  -- the system is at the last moment then
  at : moment_of m2.memory s1 ≡ moment_after m es n
  at = after m es n m0 m1 m2 s0 s1 lines lines1 p alone r

  last_is : IsSystem s1 → s0.rounds + n ≤ 1000000 → All (λ k. IsSound (registers_of k.state)) s1.guests → All HasBlocks s1.volumes → IsMoment (moment_after m es n)
  last_is holds few sound long =
      let still : IsConsistentState s1.config (moment_of m2.memory s1).state = subst (λ (k : Moment). IsConsistentState k.config k.state) (sym at) (rounds_keep_right m es n right) in
      let made : s1.rounds ≡ s0.rounds + n = ap (λ (s : System). s.rounds) r.system in
      subst IsMoment at (is_moment m2.memory s1 holds r.goes.stands still (omega (arith, made, few)) sound long)

  pub rounds_saved : {T E : Type 0} → HavePresent s0.guests (map none_touched (guests_in m1.memory s0.guests)) → (text : List ℕ) (saved : Saved) (out out' : Seen) (shows : Result T E) → IsSystem s1 → s0.rounds + n ≤ 1000000 → length lines1 ≡ length lines → saved.failed ≡ first_failed s1.marks s1.drives → saved.is_cut ≡ is_err shows
      → ShownSince (is_err shows) out out' (snap_bytes text (moment_of m2.memory s1)) → IfOk shows (λ _. All (λ k. IsSound (registers_of k.state)) s1.guests) → IfOk shows (λ _. All HasBlocks s1.volumes)
      → SavesFrom MissesArePaid m es n text saved (record { machine = m0; machine' = m2; lines = lines; lines' = lines1; drives = drives; drives' = drives }) out out'
  rounds_saved present text saved out out' shows holds few size failed cut shown sound long = record {
    fit = fit;
    marks = s1.marks;
    lines = rounds_shown m es n m0 m1 m2 s0 s1 lines lines1 p alone r;
    size = size;
    drives = refl;
    retires = retired m es n m0 m1 m2 s0 s1 lines lines1 p alone r;
    also = record { missed = r.pays.missed; misses = all_missed m es n m0 m1 m2 s0 s1 lines lines1 p alone r; touches = all_touched m es n m0 m1 m2 s0 s1 lines lines1 p alone r present };
    failed = failed ∙ ap (first_failed s1.marks) (no_drives m es n m0 m1 m2 s0 s1 lines lines1 p alone r);
    shown = subst (λ b. ShownSince b out out' (snap_bytes text (moment_after m es n))) (sym cut) (subst (λ (k : Moment). ShownSince (is_err shows) out out' (snap_bytes text k)) at shown);
    moment = λ whole.
        let all : is_err shows ≡ false = sym cut ∙ whole in
        last_is holds few (where_whole (All (λ k. IsSound (registers_of k.state)) s1.guests) shows sound all) (where_whole (All HasBlocks s1.volumes) shows long all);
  }

-- power came up before
pub run_saved : (c : Config) (images : List (List ℕ)) (es : List Event) (n : ℕ) (m0 m1 m2 : Machine) (s0 : System) (lines lines1 : List Seen) (drives drives1 : List SeenDrive) (p : HasPower c images drives drives1 m1 s0) (text : List ℕ) (saved : Saved) (out out' : Seen)
    → SavesFrom MissesArePaid (first_moment c images p.volumes) es n text saved (record { machine = m0; machine' = m2; lines = lines; lines' = lines1; drives = drives1; drives' = drives1 }) out out'
    → Saves MissesArePaid (record { config = c; images = images; volumes = p.volumes; events = es; rounds = n }) text saved (record { machine = m0; machine' = m2; lines = lines; lines' = lines1; drives = drives; drives' = drives1 }) out out'
run_saved c images es n m0 m1 m2 s0 lines lines1 drives drives1 p text saved out out' saves = record {
  fits = p.fits;
  loaded = p.loaded.0;
  saves = subst (λ (ds : List SeenDrive). SavesFrom MissesArePaid (first_moment c images p.volumes) es n text saved (record { machine = m0; machine' = m2; lines = lines; lines' = lines1; drives = ds; drives' = drives1 }) out out') p.loaded.1 saves;
}
