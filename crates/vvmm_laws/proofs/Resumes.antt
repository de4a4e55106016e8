-- Which answer must be given to `resume`, and to `extend`.
use Rattle.std.proofs.Common.{ℕ, ◌≡◌, ◌<◌, ◌≤◌, ◌+◌, ◌⊎◌, inl, inr, List, Option, Some, None, All, Result, Ok, Err, refl, subst, sym, ap, ◌∙◌, arith}
use Rattle.sys_runs.specs.Besides.{MissesArePaid}
use Rattle.vv_io.specs.Causes.{Rose}
use Rattle.vv_io.specs.Lines.{Seen}
use Rattle.vv_io.specs.Shelf.{File, held}
use Rattle.sys_devices.proofs.Places.{at_stands}
use Rattle.sys_devices.specs.Loads.{IsMisfit}
use Rattle.sys_devices.specs.Rows.{FitsDrive}
use Rattle.sys_state.specs.Run.{Moment}
use Rattle.sys_runs.specs.Ran.{RunOutside, Untouched}
use Rattle.sys_runs.specs.Saved.{ContinuesRun, ExtendsRun, StaysAt}
use Rattle.sys_runs.specs.declared.running.Ran.{Ran}
use Rattle.sys_runs.specs.declared.saving.Saved.{Saved}
use Rattle.sys_script.specs.declared.event.Event.{Event}
use Rattle.sys_script.specs.declared.event.ScriptFault.{ScriptFault}
use Rattle.sys_snap.proofs.Misfits.{refused_are_none}
use Rattle.sys_snap.proofs.OnlyStates.{of_one_moment}
use Rattle.sys_snap.specs.Misfits.{misfit_in}
use Rattle.sys_snap.specs.Snap.{IsSnap}
use Rattle.sys_snap.specs.declared.fault.SnapFault.{SnapFault}
use Rattle.sys_system.specs.declared.power.PowerFault.{PowerFault}
use Rattle.sys_system.specs.declared.power.PowerFault.TheVariants as faults
use Rattle.vvmm_call.specs.Answer.{AnswersRun, AnswersSave, FollowsExtend, FollowsResume, Outside, PlaysExtend, PlaysResume, Silent, Refuses, power_status, run_outside, fault_status}
use Rattle.vvmm_files.proofs.Stopping.{stops_extend}
use Rattle.vvmm_files.specs.Files.{HasBoth, HasSnap, IsNextToResume, IsScriptRefused, IsSnapRefused, StopsExtend, StopsResume}
use Rattle.vvmm_files.specs.Words.{ResumeWords}
use Rattle.vvmm_files.specs.declared.status.Status.{Status}
use Rattle.vvmm_files.specs.declared.stop.CommandFault.{CommandFault}
use Rattle.vvmm_files.specs.declared.stop.CommandFault.TheVariants.{Missing, TooLong, ShelfFault, Config as ConfigRefused, Script as ScriptRefused, SnapSize, Snap as SnapRefused, NoMemory}
use Rattle.vvmm_laws.proofs.Played.{made_names_drive, made_names_line, made_served, one_misfit, same_drives, saved_names_line, saved_served}
use Rattle.vvmm_laws.proofs.Told.{Unread, lacked, not_long, not_script, one_line, one_value, one_text, read_as, too_long}
use Rattle.vvmm_laws.specs.Complete.{IsLong, IsMissing, IsServed, IsSizeOf, IsTooLong, NamesDrive, NamesLine, NoneRose, TellsLine, line_at}
use Rattle.vvmm_laws.specs.Snaps.{CompletesExtend, CompletesResume, IsSnapSize, TellsExtendSize, TellsMany, TellsPlace, TellsResumeDriveFault, TellsResumeLine, TellsResumeLineFault, TellsResumeMissing, TellsResumeSize, TellsResumeTooLong, TellsSnap}

-- the moment of a snapshot is one, and what is refused is none
module _ (files : List File) (name : List ℕ) where
  one_moment : (m n : Moment) → HasSnap (Some files) name m → HasSnap (Some files) name n → m ≡ n
  one_moment m n a b = of_one_moment b.bytes m n (subst (λ (bytes : List ℕ). IsSnap bytes m) (one_text files name a.bytes b.bytes a.read b.read) a.is) b.is

  not_snap : (m : Moment) (f : SnapFault) → HasSnap (Some files) name m → IsSnapRefused (Some files) name f → ⊥
  not_snap m f a b = refused_are_none b.bytes f.place b.refused m (subst (λ (bytes : List ℕ). IsSnap bytes m) (one_text files name a.bytes b.bytes a.read b.read) a.is)

  one_place : (f g : SnapFault) → IsSnapRefused (Some files) name f → IsSnapRefused (Some files) name g → f ≡ g
  one_place f g a b =
      let same : f.place ≡ g.place = one_value (misfit_in b.bytes) f.place g.place (ap misfit_in (one_text files name b.bytes a.bytes b.read a.read) ∙ a.refused) b.refused in
      λ i. record { place = same i }

module _ (files : List File) (a : ResumeWords) where
  -- where both files are read, or the snapshot is refused, or the script, there is none that can't be read
  both_read : (n : List ℕ) (m : Moment) (es : List Event) → HasBoth (Some files) a m es → IsNextToResume (Some files) a n → Unread files n → ⊥
  both_read n m es has (inl e) none = read_as files a.snap n has.snap.bytes e none has.snap.read
  both_read n m es has (inr s) none = read_as files a.script n has.script.text s.is none has.script.read

  place_read : (n : List ℕ) (f : SnapFault) → IsSnapRefused (Some files) a.snap f → IsNextToResume (Some files) a n → Unread files n → ⊥
  place_read n f refused (inl e) none = read_as files a.snap n refused.bytes e none refused.read
  place_read n f refused (inr s) none = not_snap files a.snap s.moment f s.has refused

  line_read : (n : List ℕ) (m : Moment) (f : ScriptFault) → HasSnap (Some files) a.snap m → IsScriptRefused (Some files) a.script f → IsNextToResume (Some files) a n → Unread files n → ⊥
  line_read n m f has refused (inl e) none = read_as files a.snap n has.bytes e none has.read
  line_read n m f has refused (inr s) none = read_as files a.script n refused.text s.is none refused.read

  -- two files that are fetched next, and can't be read, are one
  same_next : (n m : List ℕ) → IsNextToResume (Some files) a n → IsNextToResume (Some files) a m → Unread files n → Unread files m → n ≡ m
  same_next n m (inl e) (inl f) none gone = e ∙ sym f
  same_next n m (inl e) (inr t) none gone = absurd (read_as files a.snap n t.has.bytes e none t.has.read)
  same_next n m (inr s) (inl f) none gone = absurd (read_as files a.snap m s.has.bytes f gone s.has.read)
  same_next n m (inr s) (inr t) none gone = s.is ∙ sym t.is

module _ (files : List File) (a : ResumeWords) (before now : ℕ) (none : Rose before now → ⊥) where
  -- the fetch of snapshot and script stops
  only_memory : (stop : CommandFault) (m : Moment) (es : List Event) → StopsResume (Some files) a before now stop → HasBoth (Some files) a m es → fault_status stop ≡ fault_status NoMemory
  only_memory (Missing n) m es (next, lacks) has = absurd (both_read files a n m es has next (lacked files n lacks))
  only_memory (TooLong n) m es (next, long) has = absurd (both_read files a n m es has next (too_long files n long))
  only_memory ShelfFault m es rose has = absurd (none rose)
  only_memory (ConfigRefused f) m es h has = absurd h
  only_memory (ScriptRefused f) m es (d, snap, refused, kept) has = absurd (not_script files a.script es f has.script refused)
  only_memory SnapSize m es h has = absurd h
  only_memory (SnapRefused f) m es (refused, kept) has = absurd (not_snap files a.snap m f has.snap refused)
  only_memory NoMemory m es h has = refl

  missing_stop : (stop : CommandFault) (name : List ℕ) → StopsExtend (Some files) a before now stop → IsNextToResume (Some files) a name → held files name ≡ None → IsMissing name (fault_status stop)
  missing_stop (Missing n) name (next, lacks) mine lack = same_next files a n name next mine (lacked files n lacks) (lacked files name lack)
  missing_stop (TooLong n) name (next, long) mine lack = not_long files name n (same_next files a name n mine next (lacked files name lack) (too_long files n long)) lack long
  missing_stop ShelfFault name rose mine lack = none rose
  missing_stop (ConfigRefused f) name h mine lack = h
  missing_stop (ScriptRefused f) name (m, snap, refused, kept) mine lack = line_read files a name m f snap refused mine (lacked files name lack)
  missing_stop SnapSize name (many, kept) mine lack = both_read files a name many.moment many.events many.has mine (lacked files name lack)
  missing_stop (SnapRefused f) name (refused, kept) mine lack = place_read files a name f refused mine (lacked files name lack)
  missing_stop NoMemory name h mine lack = tt

  long_stop : (stop : CommandFault) (name : List ℕ) → StopsExtend (Some files) a before now stop → IsNextToResume (Some files) a name → IsLong files name → IsTooLong name (fault_status stop)
  long_stop (TooLong n) name (next, other) mine long = same_next files a n name next mine (too_long files n other) (too_long files name long)
  long_stop (Missing n) name (next, lacks) mine long = not_long files n name (same_next files a n name next mine (lacked files n lacks) (too_long files name long)) lacks long
  long_stop ShelfFault name rose mine long = none rose
  long_stop (ConfigRefused f) name h mine long = h
  long_stop (ScriptRefused f) name (m, snap, refused, kept) mine long = line_read files a name m f snap refused mine (too_long files name long)
  long_stop SnapSize name (many, kept) mine long = both_read files a name many.moment many.events many.has mine (too_long files name long)
  long_stop (SnapRefused f) name (refused, kept) mine long = place_read files a name f refused mine (too_long files name long)
  long_stop NoMemory name h mine long = tt

  place_stop : (stop : CommandFault) (f : SnapFault) → StopsExtend (Some files) a before now stop → IsSnapRefused (Some files) a.snap f → TellsPlace f (fault_status stop)
  place_stop (Missing n) f (next, lacks) refused = place_read files a n f refused next (lacked files n lacks)
  place_stop (TooLong n) f (next, long) refused = place_read files a n f refused next (too_long files n long)
  place_stop ShelfFault f rose refused = none rose
  place_stop (ConfigRefused g) f h refused = h
  place_stop (ScriptRefused g) f (m, snap, other, kept) refused = not_snap files a.snap m f snap refused
  place_stop SnapSize f (many, kept) refused = not_snap files a.snap many.moment f many.has.snap refused
  place_stop (SnapRefused g) f (other, kept) refused = one_place files a.snap g f other refused
  place_stop NoMemory f h refused = tt

  line_stop : (stop : CommandFault) (m : Moment) (f : ScriptFault) → StopsExtend (Some files) a before now stop → HasSnap (Some files) a.snap m → IsScriptRefused (Some files) a.script f → TellsLine f (fault_status stop)
  line_stop (Missing n) m f (next, lacks) has refused = line_read files a n m f has refused next (lacked files n lacks)
  line_stop (TooLong n) m f (next, long) has refused = line_read files a n m f has refused next (too_long files n long)
  line_stop ShelfFault m f rose has refused = none rose
  line_stop (ConfigRefused g) m f h has refused = h
  line_stop (ScriptRefused g) m f (d, snap, other, kept) has refused = one_line files a.script g f other refused
  line_stop SnapSize m f (many, kept) has refused = not_script files a.script many.events f many.has.script refused
  line_stop (SnapRefused g) m f (other, kept) has refused = not_snap files a.snap m g has other
  line_stop NoMemory m f h has refused = tt

  -- a run that is to be saved doesn't stop at its rounds, where a snapshot can have them, and else at nothing before
  few_stop : (stop : CommandFault) (m : Moment) (es : List Event) → StopsExtend (Some files) a before now stop → HasBoth (Some files) a m es → m.made + a.rounds ≤ 1000000 → fault_status stop ≡ fault_status NoMemory
  few_stop SnapSize m es (many, kept) has few = absurd (omega (arith, few, many.many, ap (λ (n : Moment). n.made) (one_moment files a.snap m many.moment has.snap many.has.snap)))
  few_stop (Missing n) m es why has few = only_memory (Missing n) m es why has
  few_stop (TooLong n) m es why has few = only_memory (TooLong n) m es why has
  few_stop ShelfFault m es why has few = only_memory ShelfFault m es why has
  few_stop (ConfigRefused f) m es why has few = only_memory (ConfigRefused f) m es why has
  few_stop (ScriptRefused f) m es why has few = only_memory (ScriptRefused f) m es why has
  few_stop (SnapRefused f) m es why has few = only_memory (SnapRefused f) m es why has
  few_stop NoMemory m es why has few = refl

  many_stop : (stop : CommandFault) (m : Moment) (es : List Event) → StopsExtend (Some files) a before now stop → HasBoth (Some files) a m es → IsSnapSize (fault_status stop)
  many_stop SnapSize m es why has = tt
  many_stop (Missing n) m es (next, lacks) has = both_read files a n m es has next (lacked files n lacks)
  many_stop (TooLong n) m es (next, long) has = both_read files a n m es has next (too_long files n long)
  many_stop ShelfFault m es rose has = none rose
  many_stop (ConfigRefused f) m es h has = h
  many_stop (ScriptRefused f) m es (d, snap, refused, kept) has = not_script files a.script es f has.script refused
  many_stop (SnapRefused f) m es (refused, kept) has = not_snap files a.snap m f has.snap refused
  many_stop NoMemory m es why has = tt

-- What is known of a run that goes on, whichever way it ends.
pub record GoesOn (a : ResumeWords) (status : Status) (o : Outside) : Type 0 where
  pub moment : Moment
  pub events : List Event
  pub has : HasBoth o.files a moment events
  pub served : All (FitsDrive o.drives) moment.config.volumes → NoneRose o → IsServed status
  pub size : (v : ℕ) → IsMisfit moment.config.volumes o.drives v → IsSizeOf v status
  pub names_line : (k : ℕ) → (line_at o.lines k).faults < (line_at o.lines' k).faults → NamesLine k status

-- where no round is made, the answer names what is amiss, and nothing is touched
module _ (m : Moment) (o : RunOutside) where
  stays_served : (fault : PowerFault) → StaysAt m fault o → All (FitsDrive o.drives) m.config.volumes → IsServed (power_status fault)
  stays_served (faults.Image g) down fit = absurd down
  stays_served (faults.VolumeSize v) (misfit, rest) fit = absurd (misfit.differs (at_stands (FitsDrive o.drives) m.config.volumes v misfit.row misfit.stands fit))
  stays_served (faults.DriveIn d) down fit = absurd down
  stays_served faults.NoMemory rest fit = tt

  stays_size : (fault : PowerFault) → StaysAt m fault o → (v : ℕ) → IsMisfit m.config.volumes o.drives v → IsSizeOf v (power_status fault)
  stays_size (faults.Image g) down v misfit = absurd down
  stays_size (faults.VolumeSize w) (other, rest) v misfit = one_misfit m.config.volumes o.drives w v other misfit
  stays_size (faults.DriveIn d) down v misfit = absurd down
  stays_size faults.NoMemory rest v misfit = tt

  untouched : (fault : PowerFault) → StaysAt m fault o → Untouched o
  untouched (faults.Image g) down = absurd down
  untouched (faults.VolumeSize v) (misfit, rest) = rest
  untouched (faults.DriveIn d) down = absurd down
  untouched faults.NoMemory rest = rest

  stays_line : (fault : PowerFault) → StaysAt m fault o → (k : ℕ) → (line_at o.lines k).faults < (line_at o.lines' k).faults → ⊥
  stays_line fault down k h = omega (arith, h, ap (λ (ls : List Seen). (line_at ls k).faults) (untouched fault down).shown.lines)

module _ (a : ResumeWords) (status : Status) (o : Outside) where
  -- `resume` does so
  resumes : (PlaysResume MissesArePaid) a status o → GoesOn a status o
  resumes p = record {
    moment = p.moment;
    events = p.events;
    has = p.has;
    served = λ fit none. served p.result p.ends.0 p.ends.1 fit none;
    size = λ v misfit. size p.result p.ends.0 p.ends.1 v misfit;
    names_line = λ k h. line p.result p.ends.0 p.ends.1 k h;
  }
    where
      served : (result : Result Ran PowerFault) → (ContinuesRun MissesArePaid) p.moment p.events a.rounds result (run_outside o) → AnswersRun a.rounds result status o.out o.out' → All (FitsDrive o.drives) p.moment.config.volumes → NoneRose o → IsServed status
      served (Ok ran) made closes fit none = made_served _ _ _ ran (run_outside o) made _ status o.out o.out' closes none.lines none.drives none.out
      served (Err fault) down (answer, same) fit none = subst (λ (s : Status). IsServed s) (sym answer) (stays_served p.moment (run_outside o) fault down fit)

      size : (result : Result Ran PowerFault) → (ContinuesRun MissesArePaid) p.moment p.events a.rounds result (run_outside o) → AnswersRun a.rounds result status o.out o.out' → (v : ℕ) → IsMisfit p.moment.config.volumes o.drives v → IsSizeOf v status
      size (Ok ran) made closes v misfit = absurd (misfit.differs (at_stands (FitsDrive o.drives) p.moment.config.volumes v misfit.row misfit.stands made.fit))
      size (Err fault) down (answer, same) v misfit = subst (λ (s : Status). IsSizeOf v s) (sym answer) (stays_size p.moment (run_outside o) fault down v misfit)

      line : (result : Result Ran PowerFault) → (ContinuesRun MissesArePaid) p.moment p.events a.rounds result (run_outside o) → AnswersRun a.rounds result status o.out o.out' → (k : ℕ) → (line_at o.lines k).faults < (line_at o.lines' k).faults → NamesLine k status
      line (Ok ran) made closes k h = made_names_line _ _ _ ran (run_outside o) made _ status o.out o.out' closes k h
      line (Err fault) down answers k h = absurd (stays_line p.moment (run_outside o) fault down k h)

  -- and so does `extend`
  extends : (PlaysExtend MissesArePaid) a status o → GoesOn a status o
  extends p = record {
    moment = p.moment;
    events = p.events;
    has = p.has;
    served = λ fit none. served p.result p.ends.0 p.ends.1 fit none;
    size = λ v misfit. size p.result p.ends.0 p.ends.1 v misfit;
    names_line = λ k h. line p.result p.ends.0 p.ends.1 k h;
  }
    where
      served : (result : Result Saved PowerFault) → (ExtendsRun MissesArePaid) p.moment p.has.snap.is.text p.events a.rounds result (run_outside o) o.out o.out' → AnswersSave result status → All (FitsDrive o.drives) p.moment.config.volumes → NoneRose o → IsServed status
      served (Ok saved) saves answer fit none = saved_served _ _ _ _ saved (run_outside o) o.out o.out' saves status answer none.lines none.out
      served (Err fault) (down, same) answer fit none = subst (λ (s : Status). IsServed s) (sym answer) (stays_served p.moment (run_outside o) fault down fit)

      size : (result : Result Saved PowerFault) → (ExtendsRun MissesArePaid) p.moment p.has.snap.is.text p.events a.rounds result (run_outside o) o.out o.out' → AnswersSave result status → (v : ℕ) → IsMisfit p.moment.config.volumes o.drives v → IsSizeOf v status
      size (Ok saved) saves answer v misfit = absurd (misfit.differs (at_stands (FitsDrive o.drives) p.moment.config.volumes v misfit.row misfit.stands saves.fit))
      size (Err fault) (down, same) answer v misfit = subst (λ (s : Status). IsSizeOf v s) (sym answer) (stays_size p.moment (run_outside o) fault down v misfit)

      line : (result : Result Saved PowerFault) → (ExtendsRun MissesArePaid) p.moment p.has.snap.is.text p.events a.rounds result (run_outside o) o.out o.out' → AnswersSave result status → (k : ℕ) → (line_at o.lines k).faults < (line_at o.lines' k).faults → NamesLine k status
      line (Ok saved) saves answer k h = saved_names_line _ _ _ _ saved (run_outside o) o.out o.out' saves status answer k h
      line (Err fault) (down, same) answer k h = absurd (stays_line p.moment (run_outside o) fault down k h)

-- what both do: they stop as `extend` may, or go on
abbrev pub Either : ResumeWords → Status → Outside → Type 0
Either a status o = (Refuses (StopsExtend o.files a o.shelf o.shelf') status × Silent o) ⊎ GoesOn a status o

abbrev pub DoesEither : (ResumeWords → Status → Outside → Type 0) → Type 0
DoesEither Follows = (a : ResumeWords) (status : Status) (o : Outside) → Follows a status o → Either a status o

pub resume_either : DoesEither (FollowsResume MissesArePaid)
resume_either a status o (inl (stops, silent)) = inl (record { stop = stops.stop; is = stops.is; why = stops_extend o.files a o.shelf o.shelf' stops.stop stops.why }, silent)
resume_either a status o (inr p) = inr (resumes a status o p)

pub extend_either : DoesEither (FollowsExtend MissesArePaid)
extend_either a status o (inl stopped) = inl stopped
extend_either a status o (inr p) = inr (extends a status o p)

-- the shelf's files are known
module _ (o : Outside) (files : List File) (a : ResumeWords) (told : o.files ≡ Some files) where
  stops_told : (stop : CommandFault) → StopsExtend o.files a o.shelf o.shelf' stop → StopsExtend (Some files) a o.shelf o.shelf' stop
  stops_told stop why = subst (λ (f : Option (List File)). StopsExtend f a o.shelf o.shelf' stop) told why

  both_told : (m : Moment) (es : List Event) → HasBoth o.files a m es → HasBoth (Some files) a m es
  both_told m es has = subst (λ (f : Option (List File)). HasBoth f a m es) told has

module _ (Follows : ResumeWords → Status → Outside → Type 0) (does : DoesEither Follows) where
  pub tells_resume_missing : TellsResumeMissing Follows
  tells_resume_missing a status o files name follows told next lacks none = by (does a status o follows)
    where
      by : Either a status o → IsMissing name status
      by (inl (stops, silent)) = subst (λ (s : Status). IsMissing name s) (sym stops.is) (missing_stop files a o.shelf o.shelf' none stops.stop name (stops_told o files a told stops.stop stops.why) next lacks)
      by (inr p) = absurd (both_read files a name p.moment p.events (both_told o files a told p.moment p.events p.has) next (lacked files name lacks))

  pub tells_resume_too_long : TellsResumeTooLong Follows
  tells_resume_too_long a status o files name follows told next long none = by (does a status o follows)
    where
      by : Either a status o → IsTooLong name status
      by (inl (stops, silent)) = subst (λ (s : Status). IsTooLong name s) (sym stops.is) (long_stop files a o.shelf o.shelf' none stops.stop name (stops_told o files a told stops.stop stops.why) next long)
      by (inr p) = absurd (both_read files a name p.moment p.events (both_told o files a told p.moment p.events p.has) next (too_long files name long))

  pub tells_snap : TellsSnap Follows
  tells_snap a status o files f follows told refused none = by (does a status o follows)
    where
      by : Either a status o → TellsPlace f status
      by (inl (stops, silent)) = subst (λ (s : Status). TellsPlace f s) (sym stops.is) (place_stop files a o.shelf o.shelf' none stops.stop f (stops_told o files a told stops.stop stops.why) refused)
      by (inr p) = absurd (not_snap files a.snap p.moment f (both_told o files a told p.moment p.events p.has).snap refused)

  pub tells_resume_line : TellsResumeLine Follows
  tells_resume_line a status o files m f follows told has refused none = by (does a status o follows)
    where
      by : Either a status o → TellsLine f status
      by (inl (stops, silent)) = subst (λ (s : Status). TellsLine f s) (sym stops.is) (line_stop files a o.shelf o.shelf' none stops.stop m f (stops_told o files a told stops.stop stops.why) has refused)
      by (inr p) = absurd (not_script files a.script p.events f (both_told o files a told p.moment p.events p.has).script refused)

  pub tells_resume_line_fault : TellsResumeLineFault Follows
  tells_resume_line_fault a status o k follows h = by (does a status o follows)
    where
      by : Either a status o → NamesLine k status
      by (inl (stops, silent)) = absurd (omega (arith, h, ap (λ (ls : List Seen). (line_at ls k).faults) silent.run.shown.lines))
      by (inr p) = p.names_line k h

-- where it goes on, it does so from the one moment that the file holds
module _ (o : Outside) (files : List File) (a : ResumeWords) (status : Status) (told : o.files ≡ Some files) (m : Moment) (es : List Event) (has : HasBoth (Some files) a m es) (p : GoesOn a status o) where
  same_moment : m ≡ p.moment
  same_moment = one_moment files a.snap m p.moment has.snap (both_told o files a told p.moment p.events p.has).snap

  still_served : All (FitsDrive o.drives) m.config.volumes → NoneRose o → IsServed status
  still_served fit none = p.served (subst (λ (n : Moment). All (FitsDrive o.drives) n.config.volumes) same_moment fit) none

  still_size : (v : ℕ) → IsMisfit m.config.volumes o.drives v → IsSizeOf v status
  still_size v misfit = p.size v (subst (λ (n : Moment). IsMisfit n.config.volumes o.drives v) same_moment misfit)

resume_told : (o : Outside) (files : List File) (a : ResumeWords) (stop : CommandFault) → o.files ≡ Some files → StopsResume o.files a o.shelf o.shelf' stop → StopsResume (Some files) a o.shelf o.shelf' stop
resume_told o files a stop told why = subst (λ (f : Option (List File)). StopsResume f a o.shelf o.shelf' stop) told why

pub completes_resume : CompletesResume
completes_resume a status o files m es (inl (stops, silent)) told has fit none =
    subst (λ (s : Status). IsServed s) (sym (stops.is ∙ only_memory files a o.shelf o.shelf' none.shelf stops.stop m es (resume_told o files a stops.stop told stops.why) has)) tt
completes_resume a status o files m es (inr p) told has fit none = still_served o files a status told m es has (resumes a status o p) fit none

pub tells_resume_size : TellsResumeSize
tells_resume_size a status o files m es v (inl (stops, silent)) told has misfit none =
    subst (λ (s : Status). IsSizeOf v s) (sym (stops.is ∙ only_memory files a o.shelf o.shelf' none stops.stop m es (resume_told o files a stops.stop told stops.why) has)) tt
tells_resume_size a status o files m es v (inr p) told has misfit none = still_size o files a status told m es has (resumes a status o p) v misfit

pub tells_resume_drive_fault : TellsResumeDriveFault
tells_resume_drive_fault a status o d (inl (stops, silent)) h = absurd (same_drives (run_outside o) d h silent.run.drives)
tells_resume_drive_fault a status o d (inr p) h = by p.result p.ends.0 p.ends.1
  where
    by : (result : Result Ran PowerFault) → (ContinuesRun MissesArePaid) p.moment p.events a.rounds result (run_outside o) → AnswersRun a.rounds result status o.out o.out' → NamesDrive d status
    by (Ok ran) made closes = made_names_drive _ _ _ ran (run_outside o) made _ status o.out o.out' closes d h
    by (Err fault) down answers = absurd (same_drives (run_outside o) d h (untouched p.moment (run_outside o) fault down).drives)

pub completes_extend : CompletesExtend
completes_extend a status o files m es (inl (stops, silent)) told has few fit none =
    subst (λ (s : Status). IsServed s) (sym (stops.is ∙ few_stop files a o.shelf o.shelf' none.shelf stops.stop m es (stops_told o files a told stops.stop stops.why) has few)) tt
completes_extend a status o files m es (inr p) told has few fit none = still_served o files a status told m es has (extends a status o p) fit none

pub tells_extend_size : TellsExtendSize
tells_extend_size a status o files m es v (inl (stops, silent)) told has few misfit none =
    subst (λ (s : Status). IsSizeOf v s) (sym (stops.is ∙ few_stop files a o.shelf o.shelf' none stops.stop m es (stops_told o files a told stops.stop stops.why) has few)) tt
tells_extend_size a status o files m es v (inr p) told has few misfit none = still_size o files a status told m es has (extends a status o p) v misfit

pub tells_many : TellsMany
unfolding extends
tells_many a status o files m es (inl (stops, silent)) told has many none =
    subst (λ (s : Status). IsSnapSize s) (sym stops.is) (many_stop files a o.shelf o.shelf' none stops.stop m es (stops_told o files a told stops.stop stops.why) has)
tells_many a status o files m es (inr p) told has many none =
    let few : p.moment.made + a.rounds ≤ 1000000 = p.ends.3 in
    let same : m ≡ p.moment = same_moment o files a status told m es has (extends a status o p) in
    absurd (omega (arith, many, few, ap (λ (n : Moment). n.made) same))
