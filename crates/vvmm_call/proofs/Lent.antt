-- A run that is saved, goes on or is typed is given slices of what was fetched.
use Rattle.std.proofs.Common.{ℕ, ◌≡◌, List, map, subst, Result, Vec, Global}
use Rattle.sys_runs.specs.Besides.{MissesArePaid}
use Rattle.vv_io.specs.Lines.{Seen}
use Rattle.sys_live.specs.Lives.{LivesRun}
use Rattle.sys_live.specs.Operator.{Operator}
use Rattle.sys_live.specs.declared.session.Lived.{Lived}
use Rattle.sys_objects.specs.declared.records.Config.{Config}
use Rattle.sys_state.specs.Run.{Moment}
use Rattle.sys_runs.specs.Ran.{RunOutside}
use Rattle.sys_runs.specs.Saved.{ContinuesRun, ExtendsRun, SavesRun}
use Rattle.sys_runs.specs.declared.running.Ran.{Ran}
use Rattle.sys_runs.specs.declared.saving.Saved.{Saved}
use Rattle.sys_script.specs.declared.event.Event.{Event}
use Rattle.sys_system.specs.declared.power.PowerFault.{PowerFault}

abbrev items : Vec ℕ Global → List ℕ
items v = v.items

pub saves_over : (c : Config) (text text' : List ℕ) (images images' : List (Vec ℕ Global)) (es es' : List Event) (n : ℕ) (result : Result Saved PowerFault) (o : RunOutside) (out out' : Seen) → text ≡ text' → images ≡ images' → es ≡ es'
    → SavesRun MissesArePaid c text (map items images) es n result o out out' → SavesRun MissesArePaid c text' (map items images') es' n result o out out'
saves_over c text text' images images' es es' n result o out out' are_text are_images are_events saves =
    subst (λ (bytes : List ℕ). SavesRun MissesArePaid c bytes (map items images') es' n result o out out') are_text
    (subst (λ (xs : List (Vec ℕ Global)). SavesRun MissesArePaid c text (map items xs) es' n result o out out') are_images
    (subst (λ (xs : List Event). SavesRun MissesArePaid c text (map items images) xs n result o out out') are_events saves))

pub goes_over : (m : Moment) (es es' : List Event) (n : ℕ) (result : Result Ran PowerFault) (o : RunOutside) → es ≡ es' → ContinuesRun MissesArePaid m es n result o → ContinuesRun MissesArePaid m es' n result o
goes_over m es es' n result o are_events goes_on = subst (λ (xs : List Event). ContinuesRun MissesArePaid m xs n result o) are_events goes_on

pub extends_over : (m : Moment) (text text' : List ℕ) (es es' : List Event) (n : ℕ) (result : Result Saved PowerFault) (o : RunOutside) (out out' : Seen) → text ≡ text' → es ≡ es' → ExtendsRun MissesArePaid m text es n result o out out' → ExtendsRun MissesArePaid m text' es' n result o out out'
extends_over m text text' es es' n result o out out' are_text are_events goes_on =
    subst (λ (bytes : List ℕ). ExtendsRun MissesArePaid m bytes es' n result o out out') are_text (subst (λ (xs : List Event). ExtendsRun MissesArePaid m text xs n result o out out') are_events goes_on)

pub lives_over : (c : Config) (images images' : List (Vec ℕ Global)) (most : ℕ) (result : Result Lived PowerFault) (o : RunOutside) (p : Operator) (out out' : Seen) → images ≡ images'
    → LivesRun MissesArePaid c (map items images) most result o p out out' → LivesRun MissesArePaid c (map items images') most result o p out out'
lives_over c images images' most result o p out out' are_images lives =
    subst (λ (xs : List (Vec ℕ Global)). LivesRun MissesArePaid c (map items xs) most result o p out out') are_images lives
