-- `save`, any number of `extend`, and `resume`, each of what the one before it showed.
use Rattle.std.proofs.Common.{ℕ, ◌≡◌, ◌≤◌, ◌+◌, List, [], ◌∷◌, ◌++◌, length, Bool, true, false, All, Option, Some, None, Result, Ok, Err, inl, inr, refl, subst, sym, ap, ◌∙◌, arith, append_assoc, append-nil}
use Rattle.sys_runs.specs.Besides.{MissesArePaid}
use Rattle.std.proofs.lemmas.List.{append_cancel_left}
use Rattle.vv_io.specs.Blocks.{SeenDrive}
use Rattle.vv_io.specs.Lines.{Seen, shown_after}
use Rattle.vv_io.specs.Shelf.{File, held}
use Rattle.sys_config.specs.Config.{config_of}
use Rattle.sys_devices.specs.Rows.{drive_at}
use Rattle.sys_devices.specs.Stores.{StoresToDrive, is_marked, known_after}
use Rattle.sys_devices.specs.ShownSince.{ShownSince}
use Rattle.sys_objects.specs.declared.records.Config.{Config}
use Rattle.sys_state.proofs.Consoles.{bytes_append}
use Rattle.sys_state.proofs.Parts.{cut_anywhere, rounds_then}
use Rattle.sys_state.specs.Bytes.{drive_blocks, drive_blocks_from, line_bytes_from, shown_from}
use Rattle.sys_state.specs.Run.{Input, Moment, moment_after, opening, rounds, rounds_from}
use Rattle.sys_state.specs.State.{SystemState, Went, bytes_on}
use Rattle.sys_runs.specs.Ran.{MakesFrom, RunOutside}
use Rattle.sys_runs.specs.Saved.{ContinuesRun, ExtendsRun, Saves, SavesFrom, SavesRun}
use Rattle.sys_runs.specs.declared.running.Ran.{Ran}
use Rattle.sys_runs.specs.declared.saving.Saved.{Saved}
use Rattle.sys_script.specs.Script.{script_of}
use Rattle.sys_script.specs.declared.event.Event.{Event}
use Rattle.sys_snap.proofs.OnlyStates.{of_one_moment}
use Rattle.sys_snap.specs.Snap.{IsMoment, IsSnap}
use Rattle.sys_snap.specs.Written.{snap_bytes}
use Rattle.sys_system.specs.Devices.{device_of}
use Rattle.sys_devices.specs.declared.device.Device.{Device}
use Rattle.sys_system.specs.declared.power.PowerFault.{PowerFault}
use Rattle.sys_system.specs.declared.power.PowerFault.TheVariants as faults
use Rattle.vvmm_call.specs.Answer.{AnswersRun, AnswersSave, Outside, PlaysExtend, PlaysResume, PlaysSave, power_status, run_outside, status_when_done, fault_status}
use Rattle.vvmm_files.proofs.SnapText.{one_text as one_snap_text}
use Rattle.vvmm_files.specs.Files.{HasBoth, HasScript, HasSnap, IsRead}
use Rattle.vvmm_files.specs.Words.{ResumeWords, RunWords}
use Rattle.vvmm_files.specs.declared.status.Status.TheVariants.{Done}
use Rattle.vvmm_files.specs.declared.stop.CommandFault.{CommandFault}
use Rattle.vvmm_files.specs.declared.stop.CommandFault.TheVariants as stops
use Rattle.vvmm_laws.proofs.Marked.{first_marked, line_whole, none_marked}
use Rattle.vvmm_laws.proofs.Told.{one_made, one_value}
use Rattle.vvmm_laws.specs.Complete.{line_at}
use Rattle.vvmm_laws.specs.Together.{AreChained, AreJoined, AreOneRun, AreOneSave, GetsInAll, Extension, PartsMakeOne, SavesMakeOne, last_outside, last_script, outsides, rounds_of}

-- no stop and no fault of power is `Done`, and where it is the answer no device failed, and nothing was cut
pub not_stopped : (stop : CommandFault) → Done ≡ fault_status stop → ⊥
not_stopped (stops.Missing name) e = cc
not_stopped (stops.TooLong name) e = cc
not_stopped stops.ShelfFault e = cc
not_stopped (stops.Config f) e = cc
not_stopped (stops.Script f) e = cc
not_stopped stops.SnapSize e = cc
not_stopped (stops.Snap f) e = cc
not_stopped stops.NoMemory e = cc

pub not_down : (fault : PowerFault) → Done ≡ power_status fault → ⊥
not_down (faults.Image g) e = cc
not_down (faults.VolumeSize v) e = cc
not_down (faults.DriveIn d) e = cc
not_down faults.NoMemory e = cc

none_failed : (failed : Option Device) (cut : Bool) → Done ≡ status_when_done failed cut → failed ≡ None
none_failed (Some device) cut e = cc
none_failed None cut e = refl

none_cut : (failed : Option Device) (cut : Bool) → Done ≡ status_when_done failed cut → cut ≡ false
none_cut (Some device) cut e = cc
none_cut None true e = cc
none_cut None false e = refl

pub no_line : (line drive : Option ℕ) → device_of line drive ≡ None → line ≡ None
no_line (Some k) drive e = cc
no_line None drive e = refl

pub no_drive : (line drive : Option ℕ) → device_of line drive ≡ None → drive ≡ None
no_drive (Some k) drive e = cc
no_drive None (Some d) e = cc
no_drive None None e = refl

-- the same script is the same events
same_events : (files files' : List File) (name name' : List ℕ) (es es' : List Event) → HasScript (Some files) name es → HasScript (Some files') name' es' → held files' name' ≡ held files name → es' ≡ es
same_events files files' name name' es es' first second same =
    let text : second.text ≡ first.text = one_value (held files' name') second.text first.text second.read.held (same ∙ first.read.held) in
    one_made (script_of first.text) es' es (ap script_of (sym text) ∙ second.means) first.means

-- what was shown is the snapshot
shown_is : (before snap bytes : List ℕ) (start now : Option (List ℕ)) → start ≡ Some before → now ≡ Some (before ++ snap) → now ≡ shown_after start bytes → snap ≡ bytes
shown_is before snap bytes start now told shown is =
    append_cancel_left before snap bytes (one_value now (before ++ snap) (before ++ bytes) shown (is ∙ ap (λ (s : Option (List ℕ)). shown_after s bytes) told))

same_moment : (files : List File) (name snap : List ℕ) (m n : Moment) → held files name ≡ Some snap → IsSnap snap n → HasSnap (Some files) name m → m ≡ n
same_moment files name snap m n holds is has =
    of_one_moment snap m n (subst (λ (bytes : List ℕ). IsSnap bytes m) (one_value (held files name) has.bytes snap has.read.held holds) has.is) is

-- one text is shown
text_shown : (files : List File) (name snap : List ℕ) (m n : Moment) → held files name ≡ Some snap → (is : IsSnap snap n) (bytes : List ℕ) → IsRead (Some files) name bytes → (other : IsSnap bytes m) → other.text ≡ is.text
text_shown files name snap m n holds is bytes read other = one_snap_text bytes snap m n (one_value (held files name) bytes snap read.held holds) other is

-- what is shown of rounds in two parts, and that no round changes nothing
module _ (m : Moment) (es : List Event) where
  shown_then : (i j line : ℕ) → shown_from m es i line ++ shown_from (moment_after m es i) es j line ≡ shown_from m es (i + j) line
  shown_then i j line =
      let first = rounds_from m es i in
      let second = rounds_from (moment_after m es i) es j in
      let place : (m.made + i) + 1 ≡ (m.made + 1) + i = omega arith in
      let all = rounds_then m.config (m.made + 1) i j es m.state ∙ ap (λ k. record { now = (rounds m.config k j es first.now).now; puts = first.puts ++ (rounds m.config k j es first.now).puts }) (sym place) in
      sym (bytes_append line first.puts second.puts) ∙ ap (λ (w : Went SystemState). bytes_on line w.puts) (sym all)

  after_none : m ≡ moment_after m es 0
  after_none =
      let none : m.made ≡ m.made + 0 = omega arith in
      λ i. record { config = m.config; made = none i; state = m.state }

-- lines that get bytes in some, and then in others
gets_then : (k : ℕ) (os ps : List Outside) (x y : List ℕ) → GetsInAll k os x → GetsInAll k ps y → GetsInAll k (os ++ ps) (x ++ y)
gets_then k [] ps x y none second = subst (λ (bytes : List ℕ). GetsInAll k ps (bytes ++ y)) (sym none) second
gets_then k (o ∷ os) ps x y (own, rest, shown, more, all) second = (own, rest ++ y, shown, gets_then k os ps rest y more second, sym (append_assoc own rest y) ∙ ap (λ (bytes : List ℕ). bytes ++ y) all)

-- A command of this script showed on `out` the snapshot of a moment, with this text.
record At (m : Moment) (text : List ℕ) (es : List Event) (script : List ℕ) (o : Outside) : Type 0 where
  moment : IsMoment m
  few_bytes : length text ≤ 262144
  means : config_of text ≡ Ok m.config
  shown : o.out'.shown ≡ shown_after o.out.shown (snap_bytes text m)
  has_script : (files : List File) → o.files ≡ Some files → HasScript (Some files) script es

-- What goes on from there has that moment, those events and that text.
module _ (m : Moment) (text : List ℕ) (es : List Event) (script : List ℕ) (b : ResumeWords) (o p : Outside) (j : AreJoined script b o p) (at : At m text es script o) where
  is_snap : IsSnap j.snap m
  is_snap = record {
    text = text;
    few_bytes = at.few_bytes;
    means = at.means;
    moment = at.moment;
    is = shown_is j.before j.snap (snap_bytes text m) o.out.shown o.out'.shown j.told j.shown at.shown;
  }

  module _ (n : Moment) (fs : List Event) (has : HasBoth p.files b n fs) where
    moment_is : n ≡ m
    moment_is = same_moment j.files' b.snap j.snap n m j.holds_snap is_snap (subst (λ (f : Option (List File)). HasSnap f b.snap n) j.second has.snap)

    events_are : fs ≡ es
    events_are = same_events j.files j.files' script b.script es fs (at.has_script j.files j.first) (subst (λ (f : Option (List File)). HasScript f b.script fs) j.second has.script) j.same_script

    text_is : has.snap.is.text ≡ text
    unfolding is_snap
    text_is = text_shown j.files' b.snap j.snap n m j.holds_snap is_snap has.snap.bytes (subst (λ (f : Option (List File)). IsRead f b.snap has.snap.bytes) j.second has.snap.read) has.snap.is

    script_is : (files : List File) → p.files ≡ Some files → HasScript (Some files) b.script es
    script_is files told = subst (λ (f : Option (List File)). HasScript f b.script es) told (subst (λ (xs : List Event). HasScript p.files b.script xs) events_are has.script)

-- rounds were made and saved, and all was done
module _ (m : Moment) (es : List Event) (n : ℕ) (text : List ℕ) (saved : Saved) (o : RunOutside) (out out' : Seen) (saves : (SavesFrom MissesArePaid) m es n text saved o out out') (done : Done ≡ status_when_done saved.failed saved.is_cut) where
  uncut : saved.is_cut ≡ false
  uncut = none_cut saved.failed saved.is_cut done

  whole_shown : out'.shown ≡ shown_after out.shown (snap_bytes text (moment_after m es n))
  whole_shown = (subst (λ cut. ShownSince cut out out' (snap_bytes text (moment_after m es n))) uncut saves.shown).1

  whole_lines : (k : ℕ) → (line_at o.lines' k).shown ≡ shown_after (line_at o.lines k).shown (shown_from m es n k)
  whole_lines k =
      let unmarked : first_marked saves.marks ≡ None = no_line (first_marked saves.marks) None (sym saves.failed ∙ none_failed saved.failed saved.is_cut done) in
      (line_whole saves.marks o.lines o.lines' _ k (none_marked saves.marks k unmarked) saves.lines).1

-- One `extend` from there ends at the moment after its rounds.
module _ (m : Moment) (text : List ℕ) (es : List Event) (script : List ℕ) (x : Extension) (o : Outside) (j : AreJoined script x.asked o x.outside) (at : At m text es script o) where
  abbrev b : ResumeWords
  b = x.asked

  abbrev p : Outside
  p = x.outside

  abbrev next : Moment
  next = moment_after m es b.rounds

  abbrev Shows : Type 0
  Shows = At next text es b.script p × ((k : ℕ) → (line_at p.lines' k).shown ≡ shown_after (line_at p.lines k).shown (shown_from m es b.rounds k))

  extended : (PlaysExtend MissesArePaid) b Done p → Shows
  extended r = by r.result r.ends.0 r.ends.1
    where
      by : (result : Result Saved PowerFault) → (ExtendsRun MissesArePaid) r.moment r.has.snap.is.text r.events b.rounds result (run_outside p) p.out p.out' → AnswersSave result Done → Shows
      by (Ok saved) saves done =
          let same : (SavesFrom MissesArePaid) m es b.rounds text saved (run_outside p) p.out p.out' =
          subst (λ (k : Moment). (SavesFrom MissesArePaid) k es b.rounds text saved (run_outside p) p.out p.out') (moment_is m text es script b o p j at r.moment r.events r.has)
          (subst (λ (fs : List Event). (SavesFrom MissesArePaid) r.moment fs b.rounds text saved (run_outside p) p.out p.out') (events_are m text es script b o p j at r.moment r.events r.has)
          (subst (λ (t : List ℕ). (SavesFrom MissesArePaid) r.moment r.events b.rounds t saved (run_outside p) p.out p.out') (text_is m text es script b o p j at r.moment r.events r.has) saves)) in (
            record {
              moment = same.moment (uncut m es b.rounds text saved (run_outside p) p.out p.out' same done);
              few_bytes = at.few_bytes;
              means = at.means;
              shown = whole_shown m es b.rounds text saved (run_outside p) p.out p.out' same done;
              has_script = script_is m text es script b o p j at r.moment r.events r.has;
            },
            whole_lines m es b.rounds text saved (run_outside p) p.out p.out' same done,
          )
      by (Err fault) (down, same) answer = absurd (not_down fault answer)

-- A whole chain of them ends at the moment after all their rounds.
record Reaches (m : Moment) (text : List ℕ) (es : List Event) (script : List ℕ) (o : Outside) (xs : List Extension) : Type 0 where
  at : At (moment_after m es (rounds_of xs)) text es (last_script script xs) (last_outside o xs)
  lines : (k : ℕ) → GetsInAll k (outsides xs) (shown_from m es (rounds_of xs) k)

chained : (m : Moment) (text : List ℕ) (es : List Event) (script : List ℕ) (o : Outside) (xs : List Extension) → At m text es script o → AreChained script o xs → Reaches m text es script o xs
chained m text es script o [] at chain = record {
  at = subst (λ (k : Moment). At k text es script o) (after_none m es) at;
  lines = λ k. refl;
}
chained m text es script o (x ∷ xs) at (inl (stopped, silent), joined, rest) = absurd (not_stopped stopped.stop stopped.is)
chained m text es script o (x ∷ xs) at (inr plays, joined, rest) =
    let n = x.asked.rounds in
    let next = moment_after m es n in
    let one = extended m text es script x o joined at plays in
    let more = chained next text es x.asked.script x.outside xs one.0 rest in
    record {
      at = subst (λ (k : Moment). At k text es (last_script x.asked.script xs) (last_outside x.outside xs)) (cut_anywhere m es n (rounds_of xs)).last more.at;
      lines = λ k. (shown_from m es n k, shown_from next es (rounds_of xs) k, one.1 k, more.lines k, shown_then m es n (rounds_of xs) k);
    }

-- the input of all rounds
abbrev whole : Config → List (List ℕ) → List (List (List ℕ)) → List Event → ℕ → Input
whole c images volumes es n = record { config = c; images = images; volumes = volumes; events = es; rounds = n }

module _ (a : RunWords) (o : Outside) (xs : List Extension) (chain : AreChained a.script o xs) (s : (PlaysSave MissesArePaid) a Done o) (saved : Saved) (volumes : List (List (List ℕ))) (saves : (Saves MissesArePaid) (whole s.config s.images volumes s.events a.rounds) s.text saved (run_outside o) o.out o.out') (done : Done ≡ status_when_done saved.failed saved.is_cut) where
  abbrev start : Moment
  start = opening (whole s.config s.images volumes s.events a.rounds)

  abbrev all : ℕ
  all = a.rounds + rounds_of xs

  first : At (moment_after start s.events a.rounds) s.text s.events a.script o
  first = record {
    moment = saves.saves.moment (uncut start s.events a.rounds s.text saved (run_outside o) o.out o.out' saves.saves done);
    few_bytes = s.has.fits.short;
    means = ap config_of s.has.is ∙ s.has.all.config.means;
    shown = whole_shown start s.events a.rounds s.text saved (run_outside o) o.out o.out' saves.saves done;
    has_script = λ files told. subst (λ (f : Option (List File)). HasScript f a.script s.events) told s.has.all.script;
  }

  reached : Reaches (moment_after start s.events a.rounds) s.text s.events a.script o xs
  reached = chained (moment_after start s.events a.rounds) s.text s.events a.script o xs first chain

  last : At (moment_after start s.events all) s.text s.events (last_script a.script xs) (last_outside o xs)
  last = subst (λ (k : Moment). At k s.text s.events (last_script a.script xs) (last_outside o xs)) (cut_anywhere start s.events a.rounds (rounds_of xs)).last reached.at

  lines : (k : ℕ) → GetsInAll k (o ∷ outsides xs) (shown_from start s.events all k)
  lines k = (
    shown_from start s.events a.rounds k,
    shown_from (moment_after start s.events a.rounds) s.events (rounds_of xs) k,
    whole_lines start s.events a.rounds s.text saved (run_outside o) o.out o.out' saves.saves done k,
    reached.lines k,
    shown_then start s.events a.rounds (rounds_of xs) k,
  )

  one_save : AreOneSave a o xs
  one_save = record {
    input = whole s.config s.images volumes s.events all;
    has = s.has.all;
    rounds = refl;
    loaded = saves.loaded;
    lines = lines;
    shows = last.shown ∙ ap (λ (t : List ℕ). shown_after (last_outside o xs).out.shown (snap_bytes t (moment_after start s.events all))) s.has.is;
  }

  -- .. and `resume` from there
  module _ (b : ResumeWords) (p : Outside) (j : AreJoined (last_script a.script xs) b (last_outside o xs) p) where
    module _ (ran : Ran) (made : (MakesFrom MissesArePaid) (moment_after start s.events all) s.events b.rounds ran (run_outside p)) (none : ran.failed ≡ None) where
      failed : device_of (first_marked made.marks) (first_marked made.drive_marks) ≡ None
      failed = sym made.failed ∙ none

      ends : (k : ℕ) → (line_at p.lines' k).shown ≡ shown_after (line_at p.lines k).shown (line_bytes_from (moment_after start s.events all) s.events b.rounds k)
      ends k = (line_whole made.marks p.lines p.lines' _ k (none_marked made.marks k (no_line (first_marked made.marks) (first_marked made.drive_marks) failed)) made.lines).1

      drives_whole : All (λ row. (drive_at p.drives' row.drive).blocks ≡ known_after (drive_at p.drives row.drive).blocks (drive_blocks (whole s.config s.images volumes s.events (all + b.rounds)) row.drive)) s.config.volumes
      drives_whole k e h = stored _ (made.drives.stores k e h)
        where
          stored : (d : ℕ) → StoresToDrive (is_marked made.drive_marks d) (drive_at p.drives d) (drive_at p.drives' d) (drive_blocks_from (moment_after start s.events all) s.events b.rounds d)
              → (drive_at p.drives' d).blocks ≡ known_after (drive_at p.drives d).blocks (drive_blocks (whole s.config s.images volumes s.events (all + b.rounds)) d)
          stored d stores =
              let unmarked : is_marked made.drive_marks d ≡ false = none_marked made.drive_marks d (no_drive (first_marked made.marks) (first_marked made.drive_marks) failed) in
              ap (λ (kept : SeenDrive). kept.blocks) (subst (λ mark. StoresToDrive mark (drive_at p.drives d) (drive_at p.drives' d) (drive_blocks_from (moment_after start s.events all) s.events b.rounds d)) unmarked stores)
              ∙ ap (known_after (drive_at p.drives d).blocks) ((cut_anywhere start s.events all b.rounds).drives d)

      are_one : AreOneRun a b o xs p
      are_one = record {
        input = whole s.config s.images volumes s.events (all + b.rounds);
        has = s.has.all;
        rounds = refl;
        loaded = saves.loaded;
        lines = λ k.
            let bytes = line_bytes_from (moment_after start s.events all) s.events b.rounds k in
            subst (λ (whole_line : List ℕ). GetsInAll k (o ∷ outsides xs ++ p ∷ []) whole_line) ((cut_anywhere start s.events all b.rounds).lines k)
            (gets_then k (o ∷ outsides xs) (p ∷ []) (shown_from start s.events all k) bytes (lines k) (bytes, [], ends k, refl, append-nil bytes));
        drives = drives_whole;
      }

    goes : (PlaysResume MissesArePaid) b Done p → AreOneRun a b o xs p
    goes r = by r.result r.ends.0 r.ends.1
      where
        by : (result : Result Ran PowerFault) → (ContinuesRun MissesArePaid) r.moment r.events b.rounds result (run_outside p) → AnswersRun b.rounds result Done p.out p.out' → AreOneRun a b o xs p
        by (Ok ran) made closes =
            let moment = moment_is (moment_after start s.events all) s.text s.events (last_script a.script xs) b (last_outside o xs) p j last r.moment r.events r.has in
            let events = events_are (moment_after start s.events all) s.text s.events (last_script a.script xs) b (last_outside o xs) p j last r.moment r.events r.has in
            are_one ran (subst (λ (m : Moment). (MakesFrom MissesArePaid) m s.events b.rounds ran (run_outside p)) moment (subst (λ (es : List Event). (MakesFrom MissesArePaid) r.moment es b.rounds ran (run_outside p)) events made)) (none_failed ran.failed closes.cut closes.is)
        by (Err fault) down (answer, same) = absurd (not_down fault answer)

pub saves_make_one : SavesMakeOne
saves_make_one a o xs (inl (stopped, silent)) chain = absurd (not_stopped stopped.stop stopped.is)
saves_make_one a o xs (inr s) chain = by s.result s.saves s.answers
  where
    by : (result : Result Saved PowerFault) → (SavesRun MissesArePaid) s.config s.text s.images s.events a.rounds result (run_outside o) o.out o.out' → AnswersSave result Done → AreOneSave a o xs
    by (Ok saved) (volumes, saves) answer = one_save a o xs chain s saved volumes saves answer
    by (Err fault) down answer = absurd (not_down fault answer)

pub parts_make_one : PartsMakeOne
parts_make_one a b o xs p (inl (stopped, silent)) chain second joined = absurd (not_stopped stopped.stop stopped.is)
parts_make_one a b o xs p (inr s) chain (inl (stopped, silent)) joined = absurd (not_stopped stopped.stop stopped.is)
parts_make_one a b o xs p (inr s) chain (inr r) joined = by s.result s.saves s.answers
  where
    by : (result : Result Saved PowerFault) → (SavesRun MissesArePaid) s.config s.text s.images s.events a.rounds result (run_outside o) o.out o.out' → AnswersSave result Done → AreOneRun a b o xs p
    by (Ok saved) (volumes, saves) answer = goes a o xs chain s saved volumes saves answer b p joined r
    by (Err fault) down answer = absurd (not_down fault answer)
