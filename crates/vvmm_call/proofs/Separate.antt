-- A run's devices are separate, and a run of one guest touches no drive.
use Rattle.std.proofs.Common.{ℕ, ◌≡◌, List, [], ◌∷◌, Some, get_or, Result, Ok, Err, refl, subst}
use Rattle.sys_runs.specs.Besides.{MissesArePaid}
use Rattle.std.specs.List.{slice_get}
use Rattle.sys_moment_laws.proofs.Separate.{moments_separate}
use Rattle.sys_moment_laws.proofs.Stands.{consistent_fits, moments_stand_right}
use Rattle.sys_objects.specs.Condition.{IsConfig}
use Rattle.sys_purge.proofs.Devices.{flows_itself, line_flows}
use Rattle.sys_purge.proofs.Lines.{keeps_devices, keeps_shown, shown_kept}
use Rattle.sys_purge.proofs.Depends.{keeps_volumes}
use Rattle.sys_purge.specs.Laws.{IsSeparateFrom}
use Rattle.sys_snap.specs.Snap.{IsMoment}
use Rattle.sys_state.specs.Bytes.{devices_of}
use Rattle.sys_state.specs.Run.{Input, Moment}
use Rattle.sys_objects.specs.declared.records.Config.{Config}
use Rattle.sys_objects.specs.declared.records.VolumeRow.{VolumeRow}
use Rattle.sys_script.specs.declared.event.Event.{Event}
use Rattle.vv_io.specs.Lines.{Seen}
use Rattle.sys_runs.specs.Laws.{TouchesNoDrive}
use Rattle.sys_runs.specs.Ran.{RunOutside, Runs}
use Rattle.sys_runs.specs.declared.running.Ran.{Ran}
use Rattle.sys_system.specs.declared.power.PowerFault.{PowerFault}
use Rattle.sys_system.specs.declared.power.PowerFault.TheVariants.{Image, VolumeSize, DriveIn, NoMemory}
use Rattle.vvmm_call.specs.Answer.{IsSeparate, IsShownSeparate, IsShownSeparateFrom, PlaysConfiguration}
use Rattle.vvmm_files.specs.Solo.{solo_config}
use Rattle.vvmm_files.specs.Words.{SoloWords}
use Rattle.vvmm_files.specs.declared.status.Status.{Status}

pub separate : (x : Input) → IsConfig x.config → IsSeparate x
separate x accepted = record { lines = keeps_devices x accepted; drives = keeps_volumes x accepted }

pub shown_separate : (x : Input) → IsConfig x.config → IsShownSeparate x
shown_separate = keeps_shown

pub resumed_separate : (m : Moment) (es : List Event) (n : ℕ) → IsConfig m.config → IsMoment m → IsSeparateFrom m es n
resumed_separate m es n accepted is = moments_separate m es n accepted (moments_stand_right m is)

pub extended_separate : (m : Moment) (es : List Event) (n : ℕ) → IsConfig m.config → IsMoment m → IsShownSeparateFrom m es n
extended_separate m es n accepted is k d within =
    let class = (get_or (devices_of m.config) k d).class in
    shown_kept m es n (consistent_fits m.config m.state (moments_stand_right m is)) class accepted (get_or (devices_of m.config) k d).line (line_flows m.config accepted class k d within (flows_itself class))

-- a run of the guest A
pub as_solo : (a : SoloWords) (c : Config) (images : List (List ℕ)) (es : List Event) (image : List ℕ) (status : Status) (o : RunOutside) (out out' : Seen) → c ≡ solo_config a → es ≡ [] → images ≡ image ∷ [] → PlaysConfiguration MissesArePaid c images es 1 status o out out' → PlaysConfiguration MissesArePaid (solo_config a) (image ∷ []) [] 1 status o out out'
as_solo a c images es image status o out out' config events one plays =
    subst (λ (x : Config). PlaysConfiguration MissesArePaid x (image ∷ []) [] 1 status o out out') config (subst (λ (xs : List (List ℕ)). PlaysConfiguration MissesArePaid c xs [] 1 status o out out') one (subst (λ (xs : List Event). PlaysConfiguration MissesArePaid c images xs 1 status o out out') events plays))

-- there is no row
no_row : (v : ℕ) (row : VolumeRow) → (let rows : List VolumeRow = [] in slice_get rows v ≡ Some row) → ⊥
no_row v row e = cc

pub solo_drives : TouchesNoDrive → (a : SoloWords) (image : List ℕ) (result : Result Ran PowerFault) (o : RunOutside) → Runs MissesArePaid (solo_config a) (image ∷ []) [] 1 result o → o.drives' ≡ o.drives
solo_drives law a image (Ok ran) o (volumes, makes) = law _ ran o refl makes
solo_drives law a image (Err (Image g)) o (misfit, untouched) = untouched.drives
solo_drives law a image (Err (VolumeSize v)) o (fits, misfit, untouched) = untouched.drives
solo_drives law a image (Err (DriveIn d)) o (fits, failed, unshown) = absurd (no_row failed.place failed.row failed.stands)
solo_drives law a image (Err NoMemory) o h = h.drives
