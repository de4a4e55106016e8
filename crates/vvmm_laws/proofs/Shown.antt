-- Which answer must be given to `check`, `migrate`, `asm`, `list` and `dis`.
use Rattle.std.proofs.Common.{ℕ, ◌≡◌, inl, inr, List, Option, Some, None, Result, Ok, Err, refl, subst, sym, ap, ◌∙◌}
use Rattle.vv_io.specs.Causes.{Rose}
use Rattle.vv_io.specs.Shelf.{File, held}
use Rattle.vvmm_files.specs.Commands.{ShelfAndSink, FollowsFile, HasTooLong, IsFetched, Lacks}
use Rattle.vvmm_files.specs.declared.answer.Answer.{Answer}
use Rattle.vvmm_files.specs.declared.answer.Answer.TheVariants as answers
use Rattle.vasm_text.specs.declared.fault.AsmFault.{AsmFault}
use Rattle.sys_objects.specs.declared.errors.ConfigFault.{ConfigFault}
use Rattle.sys_objects.specs.declared.records.Config.{Config}
use Rattle.vvmm_call.specs.Answer.{shelf_and_sink, status_of, fault_status}
use Rattle.vvmm_files.specs.Files.{HasConfig, IsConfigRefused, IsRead, StopsConfig}
use Rattle.vvmm_files.specs.declared.status.Status.{Status}
use Rattle.vvmm_files.specs.declared.stop.CommandFault.{CommandFault}
use Rattle.vvmm_files.specs.declared.stop.CommandFault.TheVariants.{Missing, TooLong, ShelfFault, Config as ConfigRefused, Script as ScriptRefused, SnapSize, Snap as SnapRefused, NoMemory}
use Rattle.vvmm_laws.proofs.Played.{closes_served}
use Rattle.vvmm_laws.proofs.Told.{lacked, not_both, not_config, not_long, one_error, one_rule, one_text, read_as, too_long}
use Rattle.vvmm_laws.specs.Complete.{CompletesConfig, CompletesFile, IsLong, IsMissing, IsServed, IsTooLong, TellsAsm, TellsConfigMissing, TellsConfigRule, TellsConfigTooLong, TellsFileMissing, TellsFileRefused, TellsFileTooLong, TellsRule}

module _ (files : List File) (name : List ℕ) (before now : ℕ) (none : Rose before now → ⊥) where
  -- the fetch of a configuration stops
  served_stop : (stop : CommandFault) (c : Config) → StopsConfig (Some files) name before now stop → HasConfig (Some files) name c → IsServed (fault_status stop)
  served_stop (Missing n) c (same, lacks) has = read_as files name n has.text same (lacked files n lacks) has.read
  served_stop (TooLong n) c (same, long) has = read_as files name n has.text same (too_long files n long) has.read
  served_stop ShelfFault c rose has = none rose
  served_stop (ConfigRefused f) c (refused, kept) has = not_config files name c f has refused
  served_stop (ScriptRefused f) c h has = h
  served_stop SnapSize c h has = h
  served_stop (SnapRefused f) c h has = h
  served_stop NoMemory c h has = tt

  missing_stop : (stop : CommandFault) → StopsConfig (Some files) name before now stop → held files name ≡ None → IsMissing name (fault_status stop)
  missing_stop (Missing n) (same, rest) lacks = same
  missing_stop (TooLong n) (same, long) lacks = not_long files name n (sym same) lacks long
  missing_stop ShelfFault rose lacks = none rose
  missing_stop (ConfigRefused f) (refused, kept) lacks = lacked files name lacks refused.text refused.read
  missing_stop (ScriptRefused f) h lacks = h
  missing_stop SnapSize h lacks = h
  missing_stop (SnapRefused f) h lacks = h
  missing_stop NoMemory h lacks = tt

  long_stop : (stop : CommandFault) → StopsConfig (Some files) name before now stop → IsLong files name → IsTooLong name (fault_status stop)
  long_stop (TooLong n) (same, rest) long = same
  long_stop (Missing n) (same, lacks) long = not_long files n name same lacks long
  long_stop ShelfFault rose long = none rose
  long_stop (ConfigRefused f) (refused, kept) long = too_long files name long refused.text refused.read
  long_stop (ScriptRefused f) h long = h
  long_stop SnapSize h long = h
  long_stop (SnapRefused f) h long = h
  long_stop NoMemory h long = tt

  rule_stop : (stop : CommandFault) (f : ConfigFault) → StopsConfig (Some files) name before now stop → IsConfigRefused (Some files) name f → TellsRule f (fault_status stop)
  rule_stop (Missing n) f (same, lacks) refused = read_as files name n refused.text same (lacked files n lacks) refused.read
  rule_stop (TooLong n) f (same, long) refused = read_as files name n refused.text same (too_long files n long) refused.read
  rule_stop ShelfFault f rose refused = none rose
  rule_stop (ConfigRefused g) f (other, kept) refused = one_rule files name g f other refused
  rule_stop (ScriptRefused g) f h refused = h
  rule_stop SnapSize f h refused = h
  rule_stop (SnapRefused g) f h refused = h
  rule_stop NoMemory f h refused = tt

-- the shelf's files are known
stops_told : (o : ShelfAndSink) (files : List File) (name : List ℕ) (stop : CommandFault) → o.files ≡ Some files → StopsConfig o.files name o.shelf o.shelf' stop → StopsConfig (Some files) name o.shelf o.shelf' stop
stops_told o files name stop told why = subst (λ (f : Option (List File)). StopsConfig f name o.shelf o.shelf' stop) told why

has_told : (o : ShelfAndSink) (files : List File) (name : List ℕ) (c : Config) → o.files ≡ Some files → HasConfig o.files name c → HasConfig (Some files) name c
has_told o files name c told has = subst (λ (f : Option (List File)). HasConfig f name c) told has

pub completes_config : (Bytes : Config → List ℕ → Type 0) → CompletesConfig Bytes
completes_config Bytes name status o files c (inl (stops, kept)) told has none = subst (λ (s : Status). IsServed s) (sym stops.is) (served_stop files name o.shelf o.shelf' none.shelf stops.stop c (stops_told (shelf_and_sink o) files name stops.stop told stops.why) has)
completes_config Bytes name status o files c (inr shows) told has none = closes_served None shows.bytes status o.out o.out' refl shows.closes none.out

pub tells_config_missing : (Bytes : Config → List ℕ → Type 0) → TellsConfigMissing Bytes
tells_config_missing Bytes name status o files (inl (stops, kept)) told lacks none = subst (λ (s : Status). IsMissing name s) (sym stops.is) (missing_stop files name o.shelf o.shelf' none stops.stop (stops_told (shelf_and_sink o) files name stops.stop told stops.why) lacks)
tells_config_missing Bytes name status o files (inr shows) told lacks none = let has : HasConfig (Some files) name shows.config = has_told (shelf_and_sink o) files name shows.config told shows.has in absurd (lacked files name lacks has.text has.read)

pub tells_config_too_long : (Bytes : Config → List ℕ → Type 0) → TellsConfigTooLong Bytes
tells_config_too_long Bytes name status o files (inl (stops, kept)) told long none = subst (λ (s : Status). IsTooLong name s) (sym stops.is) (long_stop files name o.shelf o.shelf' none stops.stop (stops_told (shelf_and_sink o) files name stops.stop told stops.why) long)
tells_config_too_long Bytes name status o files (inr shows) told long none = let has : HasConfig (Some files) name shows.config = has_told (shelf_and_sink o) files name shows.config told shows.has in absurd (too_long files name long has.text has.read)

pub tells_config_rule : (Bytes : Config → List ℕ → Type 0) → TellsConfigRule Bytes
tells_config_rule Bytes name status o files f (inl (stops, kept)) told refused none = subst (λ (s : Status). TellsRule f s) (sym stops.is) (rule_stop files name o.shelf o.shelf' none stops.stop f (stops_told (shelf_and_sink o) files name stops.stop told stops.why) refused)
tells_config_rule Bytes name status o files f (inr shows) told refused none = absurd (not_config files name shows.config f (has_told (shelf_and_sink o) files name shows.config told shows.has) refused)

-- the file that was fetched, of a shelf whose files are known
fetched_told : (o : ShelfAndSink) (files : List File) (name bytes : List ℕ) → o.files ≡ Some files → IsFetched o name bytes → IsRead (Some files) name bytes
fetched_told o files name bytes told f = subst (λ (fs : Option (List File)). IsRead fs name bytes) told (record { held = f.held; within = f.within })

lacks_told : (o : ShelfAndSink) (files : List File) (name : List ℕ) → o.files ≡ Some files → Lacks o.files name o.shelf o.shelf' → held files name ≡ None
lacks_told o files name told h = subst (λ (fs : Option (List File)). Lacks fs name o.shelf o.shelf') told h

long_told : (o : ShelfAndSink) (files : List File) (name : List ℕ) → o.files ≡ Some files → HasTooLong o.files name o.shelf o.shelf' → IsLong files name
long_told o files name told h = subst (λ (fs : Option (List File)). HasTooLong fs name o.shelf o.shelf') told h

module _ (made : List ℕ → Result (List ℕ) AsmFault) (files : List File) (name : List ℕ) (o : ShelfAndSink) (told : o.files ≡ Some files) (none : Rose o.shelf o.shelf' → ⊥) where
  -- a text was fetched, and the one that is read stands for this
  same_made : (text other : List ℕ) (r : Result (List ℕ) AsmFault) → IsRead (Some files) name text → IsFetched o name other → made other ≡ r → made text ≡ r
  same_made text other r read f gives = ap made (one_text files name text other read (fetched_told o files name other told f)) ∙ gives

  served : (answer : Answer) (bytes shown : List ℕ) → FollowsFile made name answer o → IsRead (Some files) name bytes → made bytes ≡ Ok shown → (Rose o.out.faults o.out'.faults → ⊥) → IsServed (status_of name answer)
  served answers.Done bytes shown h read gives out = tt
  served answers.NoMemory bytes shown h read gives out = tt
  served answers.Missing bytes shown (lacks, rest) read gives out = lacked files name (lacks_told o files name told lacks) bytes read
  served answers.TooLong bytes shown (long, rest) read gives out = too_long files name (long_told o files name told long) bytes read
  served answers.ShelfFault bytes shown (rose, rest) read gives out = none rose
  served (answers.Asm f) bytes shown (other, fetched, refused, rest) read gives out = not_both (made bytes) shown f gives (same_made bytes other (Err f) read fetched refused)
  served answers.OutFault bytes shown (other, text, fetched, gave, closes) read gives out = out closes.0

  refused : (answer : Answer) (bytes : List ℕ) (fault : AsmFault) → FollowsFile made name answer o → IsRead (Some files) name bytes → made bytes ≡ Err fault → TellsAsm fault (status_of name answer)
  refused answers.NoMemory bytes fault h read gives = tt
  refused answers.Missing bytes fault (lacks, rest) read gives = lacked files name (lacks_told o files name told lacks) bytes read
  refused answers.TooLong bytes fault (long, rest) read gives = too_long files name (long_told o files name told long) bytes read
  refused answers.ShelfFault bytes fault (rose, rest) read gives = none rose
  refused (answers.Asm f) bytes fault (other, fetched, is_refused, rest) read gives = one_error (made bytes) f fault (same_made bytes other (Err f) read fetched is_refused) gives
  refused answers.Done bytes fault (other, text, fetched, gave, closes) read gives = not_both (made bytes) text fault (same_made bytes other (Ok text) read fetched gave) gives
  refused answers.OutFault bytes fault (other, text, fetched, gave, closes) read gives = not_both (made bytes) text fault (same_made bytes other (Ok text) read fetched gave) gives

  missing : (answer : Answer) → FollowsFile made name answer o → held files name ≡ None → IsMissing name (status_of name answer)
  missing answers.Missing h lacks = refl
  missing answers.NoMemory h lacks = tt
  missing answers.TooLong (long, rest) lacks = not_long files name name refl lacks (long_told o files name told long)
  missing answers.ShelfFault (rose, rest) lacks = none rose
  missing (answers.Asm f) (other, fetched, gave, rest) lacks = lacked files name lacks other (fetched_told o files name other told fetched)
  missing answers.Done (other, text, fetched, gave, closes) lacks = lacked files name lacks other (fetched_told o files name other told fetched)
  missing answers.OutFault (other, text, fetched, gave, closes) lacks = lacked files name lacks other (fetched_told o files name other told fetched)

  long : (answer : Answer) → FollowsFile made name answer o → IsLong files name → IsTooLong name (status_of name answer)
  long answers.TooLong h more = refl
  long answers.NoMemory h more = tt
  long answers.Missing (lacks, rest) more = not_long files name name refl (lacks_told o files name told lacks) more
  long answers.ShelfFault (rose, rest) more = none rose
  long (answers.Asm f) (other, fetched, gave, rest) more = too_long files name more other (fetched_told o files name other told fetched)
  long answers.Done (other, text, fetched, gave, closes) more = too_long files name more other (fetched_told o files name other told fetched)
  long answers.OutFault (other, text, fetched, gave, closes) more = too_long files name more other (fetched_told o files name other told fetched)

pub completes_file : CompletesFile
completes_file made name status o files bytes shown (answer, answered, follows, apart) told read gives none =
    subst (λ (s : Status). IsServed s) (sym answered) (served made files name (shelf_and_sink o) told none.shelf answer bytes shown follows read gives none.out)

pub tells_file_refused : TellsFileRefused
tells_file_refused made name status o files bytes fault (answer, answered, follows, apart) told read gives none =
    subst (λ (s : Status). TellsAsm fault s) (sym answered) (refused made files name (shelf_and_sink o) told none.shelf answer bytes fault follows read gives)

pub tells_file_missing : TellsFileMissing
tells_file_missing made name status o files (answer, answered, follows, apart) told lacks none =
    subst (λ (s : Status). IsMissing name s) (sym answered) (missing made files name (shelf_and_sink o) told none answer follows lacks)

pub tells_file_too_long : TellsFileTooLong
tells_file_too_long made name status o files (answer, answered, follows, apart) told more none =
    subst (λ (s : Status). IsTooLong name s) (sym answered) (long made files name (shelf_and_sink o) told none answer follows more)
