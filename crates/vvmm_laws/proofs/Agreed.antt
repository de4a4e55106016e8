-- What two runs of `live` show where their typing is alike to a class.
use Rattle.std.proofs.Common.{ℕ, zero, suc, ◌≡◌, ◌<◌, inl, inr, List, [], ◌∷◌, ◌++◌, length, map, get_or, Bool, true, false, All, Option, Some, None, Result, Ok, Err, refl, subst, sym, ap, ◌∙◌, arith}
use Rattle.sys_runs.specs.Besides.{MissesArePaid}
use Rattle.std.specs.List.{slice_get}
use Rattle.std.proofs.lemmas.List.{append_cancel_right, ext_get_or}
use Rattle.vv_io.specs.Blocks.{SeenDrive}
use Rattle.vv_io.specs.Keys.{Keys, Took, given_of}
use Rattle.vv_io.specs.Lines.{shown_after}
use Rattle.vv_io.specs.Shelf.{File}
use Rattle.vv_class.specs.Class.{does_flow}
use Rattle.vv_class.specs.declared.class.AccessClass.{AccessClass}
use Rattle.sys_config.proofs.Accepted.{accepted_is}
use Rattle.sys_devices.proofs.Places.{as_many, at_stands}
use Rattle.sys_devices.specs.Loads.{AreDriveBlocks, AreLoaded}
use Rattle.sys_devices.specs.Rows.{drive_at}
use Rattle.sys_devices.specs.Stores.{StoresToDrive, is_marked, known_after}
use Rattle.sys_live.specs.Lives.{Lives, LivesRun}
use Rattle.sys_live.specs.Operator.{Operator}
use Rattle.sys_live.specs.Typing.{EndsTypedRun, TookWell}
use Rattle.sys_live.specs.declared.typing.Typing.{Typing}
use Rattle.sys_live.specs.declared.typing.Typing.TheVariants.{GoesOn, Over, Broken, Lost}
use Rattle.sys_live.specs.declared.session.Lived.{Lived}
use Rattle.sys_objects.specs.Condition.{IsConfig}
use Rattle.sys_objects.specs.declared.records.Config.{Config}
use Rattle.sys_objects.specs.declared.records.VolumeRow.{VolumeRow}
use Rattle.sys_purge.proofs.Depends.{devices_depend, volumes_depend}
use Rattle.sys_purge.specs.Events.{purge_events}
use Rattle.sys_purge.specs.Input.{purge_images, purge_volumes, purged}
use Rattle.sys_purge.specs.Purge.{purge_config}
use Rattle.sys_state.specs.Bytes.{LineDevice as Shown, devices_of, drive_blocks, line_bytes}
use Rattle.sys_state.specs.Run.{Input}
use Rattle.sys_script.specs.Typed.{events_typed, rounds_typed}
use Rattle.sys_system.specs.Devices.{device_of}
use Rattle.sys_devices.specs.declared.device.Device.{Device}
use Rattle.sys_system.specs.declared.power.PowerFault.{PowerFault}
use Rattle.vvmm_call.specs.Answer.{AnswersLive, FollowsLive, Outside, PlaysLive, live_status, run_outside}
use Rattle.vvmm_files.specs.Files.{AreImages, HasAllToLive, HasConfig}
use Rattle.vvmm_files.specs.Words.{LiveWords}
use Rattle.vvmm_files.specs.declared.status.Status.TheVariants.{Done}
use Rattle.vvmm_laws.proofs.Joined.{no_drive, no_line, not_down, not_stopped}
use Rattle.vvmm_laws.proofs.Lives.{has_told}
use Rattle.vvmm_laws.proofs.Marked.{first_marked, line_whole, none_marked}
use Rattle.vvmm_laws.proofs.Told.{one_config, one_images, one_value}
use Rattle.vvmm_laws.specs.Agreed.{AgreeTo, AreBlocksKnown, AreTaken, GetsSame, LivesAgree}
use Rattle.vvmm_laws.specs.Complete.{line_at}
use Rattle.vvmm_laws.specs.Live.{AreAlikeTo}

-- the lines that were taken are these
one_taking : (xs ys coming : List (List ℕ)) (after : Option (List (List ℕ))) → Took xs (Some coming) after → Took ys (Some coming) after → xs ≡ ys
one_taking xs ys coming after (first, rest, are, given, left) (second, rest', are', given', left') =
    let ends : rest ≡ rest' = one_value after rest rest' left left' in
    let whole : first ++ rest ≡ second ++ rest = sym are ∙ are' ∙ ap (λ (r : List (List ℕ)). second ++ r) (sym ends) in
    given ∙ ap (map given_of) (append_cancel_right first second rest whole) ∙ sym given'

taken_are : (typed others : List (List ℕ)) (p : Operator) → AreTaken typed p → Took others p.keys.coming p.keys'.coming → others ≡ typed
taken_are typed others p taken took =
    let told : Took others (Some taken.coming) p.keys'.coming = subst (λ (before : Option (List (List ℕ))). Took others before p.keys'.coming) taken.told took in
    let mine : Took typed (Some taken.coming) p.keys'.coming = subst (λ (before : Option (List (List ℕ))). Took typed before p.keys'.coming) taken.told taken.took in
    one_taking others typed taken.coming p.keys'.coming told mine

-- volumes are the known ones of their drives
stands_at : (rows : List VolumeRow) (k : ℕ) → k < length rows → (row : VolumeRow) × (slice_get rows k ≡ Some row)
stands_at [] k within = absurd (omega arith)
stands_at (row ∷ rows) zero within = (row, refl)
stands_at (row ∷ rows) (suc k) within = stands_at rows k (omega arith)

one_loading : (c : Config) (drives : List SeenDrive) (vs ws : List (List (List ℕ))) → AreBlocksKnown c drives → AreLoaded c.volumes drives vs → AreLoaded c.volumes drives ws → vs ≡ ws
one_loading c drives vs ws told a b = ext_get_or [] vs ws (as_many c.volumes vs a.sizes ∙ sym (as_many c.volumes ws b.sizes)) each
  where
    each : (k : ℕ) → k < length vs → get_or vs k [] ≡ get_or ws k []
    each k within =
        let inside : k < length c.volumes = omega (arith, as_many c.volumes vs a.sizes) in
        let here = stands_at c.volumes k inside in
        let there = at_stands (λ (v : VolumeRow). (bs : List (List ℕ)) × ((drive_at drives v.drive).blocks ≡ Some bs)) c.volumes k here.0 here.1 told in
        let first : get_or vs k [] ≡ there.0 = subst (λ (o : Option (List (List ℕ))). AreDriveBlocks o (get_or vs k [])) there.1 (a.told k here.0 here.1) in
        let second : get_or ws k [] ≡ there.0 = subst (λ (o : Option (List (List ℕ))). AreDriveBlocks o (get_or ws k [])) there.1 (b.told k here.0 here.1) in
        first ∙ sym second

-- where all was done no device failed, and the typing didn't break off
none_failed : (failed : Option Device) (cut : Bool) (typing : Typing) → Done ≡ live_status failed cut typing → failed ≡ None
none_failed (Some device) cut typing e = cc
none_failed None cut typing e = refl

took_all : (failed : Option Device) (cut : Bool) (typing : Typing) (most : ℕ) (lines : List (List ℕ)) (before after : Keys) → Done ≡ live_status failed cut typing → EndsTypedRun typing most lines before after → TookWell lines before after
took_all (Some device) cut typing most lines before after e ends = cc
took_all None true typing most lines before after e ends = cc
took_all None false Broken most lines before after e ends = cc
took_all None false Lost most lines before after e ends = cc
took_all None false GoesOn most lines before after e (took, whole, many) = took
took_all None false Over most lines before after e (took, out, few) = took

-- one run, by the lines that were taken
record IsTyped (c : Config) (files : List File) (typed : List (List ℕ)) (o : Outside) : Type 0 where
  x : Input
  config : x.config ≡ c
  images : AreImages (Some files) c.guests x.images
  loaded : AreLoaded c.volumes o.drives x.volumes
  events : x.events ≡ events_typed 1 typed
  rounds : x.rounds ≡ rounds_typed false typed
  lines : (k : ℕ) → (line_at o.lines' k).shown ≡ shown_after (line_at o.lines k).shown (line_bytes x k)
  drives : All (λ row. (drive_at o.drives' row.drive).blocks ≡ known_after (drive_at o.drives row.drive).blocks (drive_blocks x row.drive)) c.volumes

module _ (a : LiveWords) (c : Config) (o : Outside) (p : Operator) (files : List File) (typed : List (List ℕ)) (told : o.files ≡ Some files) (has : HasConfig (Some files) a.config c) (taken : AreTaken typed p) where
  module _ (q : (PlaysLive MissesArePaid) a Done o p) (lived : Lived) (x : Input) (same : x.config ≡ q.config) (held : x.images ≡ q.images) (lives : (Lives MissesArePaid) x a.rounds lived (run_outside o) p o.out q.shown) (none : lived.ran.failed ≡ None) (took : TookWell lives.typed p.keys p.keys') where
    all : HasAllToLive (Some files) a q.config q.images
    all = has_told o files a Done p q told

    config_is : x.config ≡ c
    config_is = same ∙ one_config files a.config q.config c all.config has

    images_are : AreImages (Some files) c.guests x.images
    images_are =
        let fetched : AreImages (Some files) c.guests q.images = subst (λ (d : Config). AreImages (Some files) d.guests q.images) (one_config files a.config q.config c all.config has) all.fetched in
        subst (λ (is : List (List ℕ)). AreImages (Some files) c.guests is) (sym held) fetched

    typed_are : lives.typed ≡ typed
    typed_are = taken_are typed lives.typed p taken took.took

    none_of : device_of (first_marked lives.makes.makes.marks) (first_marked lives.makes.makes.drive_marks) ≡ None
    none_of = sym lives.makes.makes.failed ∙ none

    lines_are : (k : ℕ) → (line_at o.lines' k).shown ≡ shown_after (line_at o.lines k).shown (line_bytes x k)
    lines_are k =
        let made = lives.makes.makes in
        (line_whole made.marks o.lines o.lines' _ k (none_marked made.marks k (no_line (first_marked made.marks) (first_marked made.drive_marks) none_of)) made.lines).1

    drives_are : All (λ row. (drive_at o.drives' row.drive).blocks ≡ known_after (drive_at o.drives row.drive).blocks (drive_blocks x row.drive)) x.config.volumes
    drives_are k e h = stored _ (lives.makes.makes.drives.stores k e h)
      where
        stored : (d : ℕ) → StoresToDrive (is_marked lives.makes.makes.drive_marks d) (drive_at o.drives d) (drive_at o.drives' d) (drive_blocks x d) → (drive_at o.drives' d).blocks ≡ known_after (drive_at o.drives d).blocks (drive_blocks x d)
        stored d stores =
            let marks = lives.makes.makes.drive_marks in
            let unmarked : is_marked marks d ≡ false = none_marked marks d (no_drive (first_marked lives.makes.makes.marks) (first_marked marks) none_of) in
            ap (λ (kept : SeenDrive). kept.blocks) (subst (λ mark. StoresToDrive mark (drive_at o.drives d) (drive_at o.drives' d) (drive_blocks x d)) unmarked stores)

    is_typed : IsTyped c files typed o
    is_typed = record {
      x = x;
      config = config_is;
      images = images_are;
      loaded = subst (λ (d : Config). AreLoaded d.volumes o.drives x.volumes) config_is lives.makes.loaded;
      events = lives.events ∙ ap (events_typed 1) typed_are;
      rounds = lives.rounds ∙ ap (rounds_typed false) typed_are;
      lines = lines_are;
      drives = subst (λ (d : Config). All (λ row. (drive_at o.drives' row.drive).blocks ≡ known_after (drive_at o.drives row.drive).blocks (drive_blocks x row.drive)) d.volumes) config_is drives_are;
    }

  played : (q : (PlaysLive MissesArePaid) a Done o p) → IsTyped c files typed o
  played q = by q.result q.lives q.answers
    where
      by : (result : Result Lived PowerFault) → (LivesRun MissesArePaid) q.config q.images a.rounds result (run_outside o) p o.out q.shown → AnswersLive result Done q.shown o.out' → IsTyped c files typed o
      by (Ok lived) (x, same, held, lives) closes = is_typed q lived x same held lives (none_failed lived.ran.failed closes.cut lived.typing closes.is) (took_all lived.ran.failed closes.cut lived.typing a.rounds lives.typed p.keys p.keys' closes.is lives.ends)
      by (Err fault) down (answer, rest) = absurd (not_down fault answer)

  follows : (FollowsLive MissesArePaid) a Done o p → IsTyped c files typed o
  follows (inl (stops, silent, untyped)) = absurd (not_stopped stops.stop stops.is)
  follows (inr q) = played q

-- both have one purge to the class
module _ (c : Config) (files : List File) (o o' : Outside) (typed typed' : List (List ℕ)) (to : AccessClass) (is : IsConfig c) (same : o'.drives ≡ o.drives) (told : AreBlocksKnown c o.drives) (s : IsTyped c files typed o) (t : IsTyped c files typed' o') (alike : AreAlikeTo c to typed typed') where
  configs : s.x.config ≡ t.x.config
  configs = s.config ∙ sym t.config

  images : s.x.images ≡ t.x.images
  images = one_images files c.guests s.x.images t.x.images s.images t.images

  volumes : s.x.volumes ≡ t.x.volumes
  volumes = one_loading c o.drives s.x.volumes t.x.volumes told s.loaded (subst (λ (ds : List SeenDrive). AreLoaded c.volumes ds t.x.volumes) same t.loaded)

  kept_of : (x : Input) (lines : List (List ℕ)) → x.config ≡ c → x.events ≡ events_typed 1 lines → purge_events x.config x.events to ≡ purge_events c (events_typed 1 lines) to
  kept_of x lines config events = λ i. purge_events (config i) (events i) to

  events : purge_events s.x.config s.x.events to ≡ purge_events t.x.config t.x.events to
  events = kept_of s.x typed s.config s.events ∙ alike.events ∙ sym (kept_of t.x typed' t.config t.events)

  rounds : s.x.rounds ≡ t.x.rounds
  rounds = s.rounds ∙ alike.rounds ∙ sym t.rounds

  one_purge : purged s.x to ≡ purged t.x to
  one_purge = λ i. record {
    config = purge_config (configs i) to;
    images = purge_images (configs i).guests (images i) to;
    volumes = purge_volumes (configs i).volumes (volumes i) to;
    events = events i;
    rounds = rounds i;
  }

  first_is : IsConfig s.x.config
  first_is = subst IsConfig (sym s.config) is

  second_is : IsConfig t.x.config
  second_is = subst IsConfig (sym t.config) is

  abbrev SameLine : Shown → Type 0
  SameLine d = does_flow d.class to ≡ true → line_bytes s.x d.line ≡ line_bytes t.x d.line

  abbrev SameDrive : VolumeRow → Type 0
  SameDrive v = does_flow v.class to ≡ true → drive_blocks s.x v.drive ≡ drive_blocks t.x v.drive

  same_lines : All SameLine (devices_of c)
  same_lines = subst (λ (e : Config). All SameLine (devices_of e)) s.config (devices_depend s.x t.x to first_is second_is one_purge)

  same_drives : All SameDrive c.volumes
  same_drives = subst (λ (e : Config). All SameDrive e.volumes) s.config (volumes_depend s.x t.x to first_is second_is one_purge)

  line_agrees : (k : ℕ) → line_bytes s.x k ≡ line_bytes t.x k → GetsSame o o' k
  line_agrees k one = (line_bytes s.x k, s.lines k, t.lines k ∙ ap (shown_after (line_at o'.lines k).shown) (sym one))

  drive_agrees : (d : ℕ) → drive_blocks s.x d ≡ drive_blocks t.x d → (drive_at o.drives' d).blocks ≡ known_after (drive_at o.drives d).blocks (drive_blocks s.x d) → (drive_at o'.drives' d).blocks ≡ known_after (drive_at o'.drives d).blocks (drive_blocks t.x d)
      → (drive_at o.drives' d).blocks ≡ (drive_at o'.drives' d).blocks
  drive_agrees d one first second =
      let there : known_after (drive_at o'.drives d).blocks (drive_blocks t.x d) ≡ known_after (drive_at o.drives d).blocks (drive_blocks t.x d) = ap (λ (ds : List SeenDrive). known_after (drive_at ds d).blocks (drive_blocks t.x d)) same in
      first ∙ ap (known_after (drive_at o.drives d).blocks) one ∙ sym (second ∙ there)

  agree : AgreeTo c to o o'
  agree = record {
    lines = λ k d within flow. line_agrees (get_or (devices_of c) k d).line (same_lines k d within flow);
    drives = λ k v within flow. drive_agrees (get_or c.volumes k v).drive (same_drives k v within flow) (s.drives k v within) (t.drives k v within);
  }

pub lives_agree : LivesAgree
lives_agree a c o o' p p' typed typed' to first second one alike =
    agree c one.files o o' typed typed' to (accepted_is one.config.text c one.config.means) one.drives one.blocks (follows a c o p one.files typed one.told one.config one.taken first) (follows a c o' p' one.files typed' one.told' one.config one.taken' second) alike
