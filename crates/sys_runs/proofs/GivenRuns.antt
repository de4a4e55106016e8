-- A run over given volumes.
use Rattle.std.proofs.Common.{ℕ, ◌≡◌, ◌≤◌, ◌+◌, ◌*◌, List, length, map, replicate, refl, ◌∙◌, ap, arith, false}
use Rattle.sys_runs.specs.Besides.{MissesArePaid}
use Rattle.std.specs.declared.result.Result.TheVariants.{Err}
use Rattle.vax_hw.specs.Machine.{Machine}
use Rattle.vv_io.specs.Blocks.{SeenDrive}
use Rattle.vv_io.specs.Lines.{Seen}
use Rattle.sys_guests.specs.Layout.{guests_in}
use Rattle.sys_guests.specs.Loads.{MemoryAlone}
use Rattle.sys_guests.specs.Present.{HavePresent}
use Rattle.sys_objects.specs.declared.records.Config.{Config}
use Rattle.sys_state.specs.FirstTouches.{none_touched}
use Rattle.sys_state.specs.Run.{Moment, first_moment}
use Rattle.sys_runs.proofs.Faults.{outside, unshown}
use Rattle.sys_runs.proofs.Made.{all_missed, all_touched, counted, no_drives, retired, shown, steps_few}
use Rattle.sys_runs.specs.Given.{MakesWith, RunsWith}
use Rattle.sys_runs.specs.Rounds.{MakesRounds}
use Rattle.sys_runs.specs.declared.running.Ran.{Ran}
use Rattle.sys_script.specs.declared.event.Event.{Event}
use Rattle.sys_system.specs.Calls.{ShowsDumps}
use Rattle.sys_system.specs.Devices.{first_failed}
use Rattle.sys_system.specs.Given.{HasPowerWith, PowersWith}
use Rattle.sys_system.specs.System.{IsSystem, System}
use Rattle.sys_system.specs.declared.power.PowerFault.{PowerFault}
use Rattle.sys_system.specs.declared.power.PowerFault.TheVariants.{Image, VolumeSize, DriveIn, NoMemory}
use Rattle.vm_stepping.specs.Made.{steps_in, tally_of}

-- it wasn't made
pub not_run_with : (c : Config) (images : List (List ℕ)) (volumes : List (List (List ℕ))) (es : List Event) (n : ℕ) (m m' : Machine) (lines : List Seen) (drives : List SeenDrive) (e : PowerFault) → PowersWith c images volumes m' (Err e) → MemoryAlone m m' → RunsWith MissesArePaid c images volumes es n (Err e) (outside m m' lines drives drives)
not_run_with c images volumes es n m m' lines drives (Image g) misfit alone = (misfit, record { shown = unshown m m' lines drives drives alone; drives = refl })
not_run_with c images volumes es n m m' lines drives (VolumeSize v) (fits, other) alone = (fits, other, record { shown = unshown m m' lines drives drives alone; drives = refl })
not_run_with c images volumes es n m m' lines drives (DriveIn d) never alone = absurd never
not_run_with c images volumes es n m m' lines drives NoMemory free alone = record { shown = unshown m m' lines drives drives alone; drives = refl }

-- it was made
pub run_made_with : (c : Config) (images : List (List ℕ)) (volumes : List (List (List ℕ))) (es : List Event) (n : ℕ) (m0 m1 m2 : Machine) (s0 s1 s2 : System) (lines lines1 lines2 : List Seen) (drives : List SeenDrive) (ran : Ran)
    → HasPowerWith c images volumes m1 s0 → MemoryAlone m0 m1 → MakesRounds n es m1 s0 lines m2 s1 lines1 → ShowsDumps m2 s1 lines1 s2 lines2
    → HavePresent s0.guests (map none_touched (guests_in m1.memory s0.guests)) → IsSystem s1 → ran.counts ≡ s2.counts → ran.failed ≡ first_failed s2.marks s2.drives → length lines2 ≡ length lines
    → MakesWith MissesArePaid (record { config = c; images = images; volumes = volumes; events = es; rounds = n }) ran (record { machine = m0; machine' = m2; lines = lines; lines' = lines2; drives = drives; drives' = drives })
run_made_with c images volumes es n m0 m1 m2 s0 s1 s2 lines lines1 lines2 drives ran p alone r d present holds counts failed size =
    let m : Moment = first_moment c images volumes in
    let few : steps_in ran.counts ≤ 1600000 * (m.made + n) = steps_few m es n m0 m1 m2 s0 s1 lines lines1 p.powered alone r ran.counts (counts ∙ ap (λ (s : System). s.counts) d.system) holds in
    let unmarked : s2.drives ≡ replicate 16 false = ap (λ (s : System). s.drives) d.system ∙ no_drives m es n m0 m1 m2 s0 s1 lines lines1 p.powered alone r in
    record {
      fits = p.fits;
      sizes = p.sizes;
      marks = s2.marks;
      lines = shown m es n m0 m1 m2 s0 s1 lines lines1 p.powered alone r s2.marks lines2 d.shows;
      size = size;
      drives = refl;
      counts = ap tally_of counts ∙ ap (λ (s : System). tally_of s.counts) d.system ∙ counted m es n m0 m1 m2 s0 s1 lines lines1 p.powered alone r;
      few = omega (arith, few);
      retires = retired m es n m0 m1 m2 s0 s1 lines lines1 p.powered alone r;
      also = record { missed = r.pays.missed; misses = all_missed m es n m0 m1 m2 s0 s1 lines lines1 p.powered alone r; touches = all_touched m es n m0 m1 m2 s0 s1 lines lines1 p.powered alone r present };
      failed = failed ∙ ap (first_failed s2.marks) unmarked;
    }
