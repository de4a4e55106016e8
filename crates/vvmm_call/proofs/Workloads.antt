-- The run of a workload that is drawn from a number.
use Rattle.std.specs.List.{AllZip}
use Rattle.sys_runs.specs.Besides.{MissesArePaid}
use Rattle.std.proofs.Common.{ℕ, suc, ◌≡◌, ◌∙◌, ◌+◌, ◌*◌, ◌≤◌, ◌⊎◌, not, inl, inr, List, [], ◌∷◌, length, map, refl, sym, ap, subst, arith, Bool, true, false, Option, Some, None, option_map, if◌then◌else◌, Result, Ok, Err, IfOk, Vec, Global}
use Rattle.std.proofs.lemmas.Bool.{eq-eqb, le-ltb}
use Rattle.std.proofs.lemmas.List.{length-map}
use Rattle.std.proofs.lemmas.Slice.Zip.{AllZip-long}
use Rattle.vv_io.specs.Lines.{Seen}
use Rattle.vm_stepping.specs.Made.{steps_in}
use Rattle.sys_devices.specs.Rows.{FitRows}
use Rattle.sys_guests.specs.Loads.{first_misfit, is_misfit}
use Rattle.sys_objects.specs.declared.records.Config.{Config}
use Rattle.sys_objects.specs.declared.records.GuestRow.{GuestRow}
use Rattle.sys_objects.specs.declared.records.VolumeRow.{VolumeRow}
use Rattle.sys_live.specs.Operator.{Operator, Untyped}
use Rattle.sys_runs.specs.Given.{RunsWith}
use Rattle.sys_runs.specs.Ran.{RunOutside, Untouched}
use Rattle.sys_runs.specs.declared.running.Ran.{Ran}
use Rattle.sys_script.specs.declared.event.Event.{Event}
use Rattle.sys_system.specs.Given.{first_of_another_size, is_another_size}
use Rattle.sys_system.specs.declared.power.PowerFault.{PowerFault}
use Rattle.sys_system.specs.declared.power.PowerFault.TheVariants.{Image, VolumeSize, DriveIn, NoMemory}
use Rattle.vv_gen.specs.Accepted.{ImageFits, IsAccepted}
use Rattle.vv_gen.specs.Workload.{Generated, workload_of}
use Rattle.vv_gen.specs.declared.load.Workload.{Workload}
use Rattle.vvmm_call.specs.Answer.{AnswersRun, FollowsLoad, Outside as CallOutside, PlaysLoad, Says, run_outside}
use Rattle.vvmm_files.specs.Words.{Wanted, WantsLoad, wanted_by}
use Rattle.vvmm_files.specs.declared.status.Status.{Status}
use Rattle.vvmm_files.specs.declared.status.Status.TheVariants.{NoMemory as OutOfMemory}
use Rattle.vvmm_files.specs.declared.words.Request.{Request}
use Rattle.vvmm_files.specs.declared.words.Request.TheVariants.{Load}

pub twenty_rounds : (number : ℕ) → (workload_of number).rounds ≡ 20
unfolding workload_of
twenty_rounds number = refl

-- an image for each guest, and a list of blocks for each volume
pub many_images : (w : Generated) → IsAccepted w → length w.images ≡ length w.config.guests
many_images w accepted = AllZip-long ImageFits w.config.guests w.images accepted.images

pub many_volumes : (w : Generated) → IsAccepted w → length w.volumes ≡ length w.config.volumes
many_volumes w accepted = sym (length-map w.volumes length) ∙ ap length accepted.volumes ∙ length-map w.config.volumes (λ v. v.blocks)

-- where the first doesn't pass, the place is that of the rest
none_passes : (b : Bool) (rest : Option ℕ) → b ≡ false → rest ≡ None → (if b then Some 0 else option_map suc rest) ≡ None
none_passes true rest e none = cc
none_passes false rest e none = ap (λ (place : Option ℕ). option_map suc place) none

-- each image fits
none_misfits : (rows : List GuestRow) (images : List (List ℕ)) → AllZip ImageFits rows images → first_misfit rows images ≡ None
none_misfits [] images fit = refl
none_misfits (row ∷ rows) [] fit = refl
none_misfits (row ∷ rows) (image ∷ images) (fits, fit) =
    none_passes (is_misfit row image) (first_misfit rows images) (le-ltb (512 * row.pages) (row.load + length image) fits) (none_misfits rows images fit)

-- each volume is of its row's size
none_another : (rows : List VolumeRow) (volumes : List (List (List ℕ))) → FitRows rows volumes → first_of_another_size rows volumes ≡ None
none_another [] volumes fit = refl
none_another (row ∷ rows) [] fit = refl
none_another (row ∷ rows) (blocks ∷ volumes) fit =
    let here : length blocks ≡ row.blocks = cc (fit) in
    let rest : FitRows rows volumes = cc (fit) in
    none_passes (is_another_size row blocks) (first_of_another_size rows volumes) (ap not (eq-eqb (length blocks) row.blocks here)) (none_another rows volumes rest)

-- its steps are few
pub few_steps : (c : Config) (images : List (List ℕ)) (volumes : List (List (List ℕ))) (events : List Event) (rounds : ℕ) (r : Result Ran PowerFault) (o : RunOutside) → rounds ≡ 20 → RunsWith MissesArePaid c images volumes events rounds r o → IfOk r (λ ran. steps_in ran.counts ≤ 3200000000000)
few_steps c images volumes events rounds (Ok ran) o twenty made = omega (arith, twenty, made.few)
few_steps c images volumes events rounds (Err fault) o twenty not_made = tt

-- it is made, or memory runs out
module _ (w : Generated) (status : Status) (o : RunOutside) (out out' : Seen) where
  abbrev Follows : Generated → Type 0
  Follows x = ((status ≡ OutOfMemory) × Untouched o × (out' ≡ out)) ⊎ PlaysLoad MissesArePaid x status o out out'

  follows : (result : Result Ran PowerFault) → IsAccepted w → RunsWith MissesArePaid w.config w.images w.volumes w.events w.rounds result o → AnswersRun w.rounds result status out out' → Follows w
  follows (Ok ran) accepted made closes = inr (record { ran = ran; made = made; closes = closes })
  follows (Err (Image g)) accepted (misfit, rest) answers = cc (misfit, none_misfits w.config.guests w.images accepted.images)
  follows (Err (VolumeSize v)) accepted (fits, another, rest) answers = cc (another, none_another w.config.volumes w.volumes accepted.volumes)
  follows (Err (DriveIn d)) accepted never answers = absurd never
  follows (Err NoMemory) accepted untouched (answer, same) = inl (answer, untouched, same)

  pub as_drawn : (number : ℕ) (result : Result Ran PowerFault) → w ≡ workload_of number → IsAccepted w → RunsWith MissesArePaid w.config w.images w.volumes w.events w.rounds result o → AnswersRun w.rounds result status out out' → FollowsLoad MissesArePaid number status o out out'
  as_drawn number result exact accepted runs answers = subst (λ (x : Generated). Follows x) exact (follows result accepted runs answers)

-- a run over what the workload has
abbrev items : Vec ℕ Global → List ℕ
items v = v.items

abbrev blocks : Vec (List ℕ) Global → List (List ℕ)
blocks v = v.items

pub runs_over : (w : Workload) (images : List (Vec ℕ Global)) (volumes : List (Vec (List ℕ) Global)) (events : List Event) (result : Result Ran PowerFault) (o : RunOutside) → images ≡ w.images.items → volumes ≡ w.volumes.items → events ≡ w.events.items
    → RunsWith MissesArePaid w.config (map items images) (map blocks volumes) events w.rounds result o → RunsWith MissesArePaid w.config (map items w.images.items) (map blocks w.volumes.items) w.events.items w.rounds result o
runs_over w images volumes events result o are_images are_volumes are_events runs =
    subst (λ (xs : List (Vec ℕ Global)). RunsWith MissesArePaid w.config (map items xs) (map blocks w.volumes.items) w.events.items w.rounds result o) are_images
    (subst (λ (xs : List (Vec (List ℕ) Global)). RunsWith MissesArePaid w.config (map items images) (map blocks xs) w.events.items w.rounds result o) are_volumes
    (subst (λ (xs : List Event). RunsWith MissesArePaid w.config (map items images) (map blocks volumes) xs w.rounds result o) are_events runs))

-- what the words asked for was done
pub says_load : (w : Option Wanted) (request : Request) (number : ℕ) (status : Status) (o : CallOutside) (p : Operator) → request ≡ Load number → (let asked : Option Wanted = Some (wanted_by request) in asked ≡ w) → FollowsLoad MissesArePaid number status (run_outside o) o.out o.out' → o.shelf' ≡ o.shelf → Untyped p → Says MissesArePaid w status o p
says_load w request number status o p is asked follows shelf untyped =
    let load : (let x : Option Wanted = Some (WantsLoad number) in x ≡ w) = subst (λ (r : Request). let x : Option Wanted = Some (wanted_by r) in x ≡ w) is asked in
    subst (λ (x : Option Wanted). Says MissesArePaid x status o p) load (follows, shelf, untyped)
