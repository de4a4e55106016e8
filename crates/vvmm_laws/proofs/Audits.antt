-- Which answer must be given to `audit`.
use Rattle.std.proofs.Common.{ℕ, ◌≡◌, inl, inr, List, Option, Some, None, Result, Ok, Err, refl, subst, sym, ◌∙◌}
use Rattle.vv_io.specs.Causes.{Rose}
use Rattle.vv_io.specs.Lines.{Seen}
use Rattle.vv_io.specs.Shelf.{File, held}
use Rattle.vvmm_files.specs.Commands.{ShelfAndSink}
use Rattle.sys_audit_check.specs.Audited.{Audited}
use Rattle.sys_audit_check.specs.Lines.{Checks}
use Rattle.sys_audit_check.specs.declared.fault.AuditFault.{AuditFault}
use Rattle.sys_objects.specs.declared.errors.ConfigFault.{ConfigFault}
use Rattle.sys_objects.specs.declared.records.Config.{Config}
use Rattle.vvmm_call.specs.Answer.{AnswersCheck, ChecksAudit, shelf_and_sink, fault_status}
use Rattle.vvmm_files.specs.Files.{HasConfig, IsConfigRefused, IsNextOfAudit, IsRead, StopsAudit}
use Rattle.vvmm_files.specs.Words.{AuditWords}
use Rattle.vvmm_files.specs.declared.status.Status.{Status}
use Rattle.vvmm_files.specs.declared.stop.CommandFault.{CommandFault}
use Rattle.vvmm_files.specs.declared.stop.CommandFault.TheVariants.{Missing, TooLong, ShelfFault, Config as ConfigRefused, Script as ScriptRefused, SnapSize, Snap as SnapRefused, NoMemory}
use Rattle.vvmm_laws.proofs.Played.{closes_served}
use Rattle.vvmm_laws.proofs.Told.{Unread, lacked, not_config, not_long, one_config, one_rule, one_text, read_as, too_long}
use Rattle.vvmm_laws.specs.Complete.{CompletesAudit, IsLong, IsMissing, IsServed, IsTooLong, TellsAuditLine, TellsAuditMissing, TellsAuditRule, TellsAuditTooLong, TellsFirstBad, TellsRule}

module _ (files : List File) (a : AuditWords) where
  -- where both files are read, or the configuration is refused, there is none that can't be read
  both_read : (n : List ℕ) (c : Config) (bytes : List ℕ) → HasConfig (Some files) a.config c → IsRead (Some files) a.recorded bytes → IsNextOfAudit (Some files) a n → Unread files n → ⊥
  both_read n c bytes has read (inl e) none = read_as files a.config n has.text e none has.read
  both_read n c bytes has read (inr s) none = read_as files a.recorded n bytes s.is none read

  rule_read : (n : List ℕ) (f : ConfigFault) → IsConfigRefused (Some files) a.config f → IsNextOfAudit (Some files) a n → Unread files n → ⊥
  rule_read n f refused (inl e) none = read_as files a.config n refused.text e none refused.read
  rule_read n f refused (inr s) none = not_config files a.config s.config f s.has refused

  -- two files that are fetched next, and can't be read, are one
  same_next : (n m : List ℕ) → IsNextOfAudit (Some files) a n → IsNextOfAudit (Some files) a m → Unread files n → Unread files m → n ≡ m
  same_next n m (inl e) (inl f) none gone = e ∙ sym f
  same_next n m (inl e) (inr t) none gone = absurd (read_as files a.config n t.has.text e none t.has.read)
  same_next n m (inr s) (inl f) none gone = absurd (read_as files a.config m s.has.text f gone s.has.read)
  same_next n m (inr s) (inr t) none gone = s.is ∙ sym t.is

module _ (files : List File) (a : AuditWords) (before now : ℕ) (none : Rose before now → ⊥) where
  -- the fetch of an audit's files stops
  served_stop : (stop : CommandFault) (c : Config) (bytes : List ℕ) → StopsAudit (Some files) a before now stop → HasConfig (Some files) a.config c → IsRead (Some files) a.recorded bytes → fault_status stop ≡ fault_status NoMemory
  served_stop (Missing n) c bytes (next, lacks) has read = absurd (both_read files a n c bytes has read next (lacked files n lacks))
  served_stop (TooLong n) c bytes (next, long) has read = absurd (both_read files a n c bytes has read next (too_long files n long))
  served_stop ShelfFault c bytes rose has read = absurd (none rose)
  served_stop (ConfigRefused f) c bytes (refused, kept) has read = absurd (not_config files a.config c f has refused)
  served_stop (ScriptRefused f) c bytes h has read = absurd h
  served_stop SnapSize c bytes h has read = absurd h
  served_stop (SnapRefused f) c bytes h has read = absurd h
  served_stop NoMemory c bytes h has read = refl

  missing_stop : (stop : CommandFault) (name : List ℕ) → StopsAudit (Some files) a before now stop → IsNextOfAudit (Some files) a name → held files name ≡ None → IsMissing name (fault_status stop)
  missing_stop (Missing n) name (next, lacks) mine lack = same_next files a n name next mine (lacked files n lacks) (lacked files name lack)
  missing_stop (TooLong n) name (next, long) mine lack = not_long files name n (same_next files a name n mine next (lacked files name lack) (too_long files n long)) lack long
  missing_stop ShelfFault name rose mine lack = none rose
  missing_stop (ConfigRefused f) name (refused, kept) mine lack = rule_read files a name f refused mine (lacked files name lack)
  missing_stop (ScriptRefused f) name h mine lack = h
  missing_stop SnapSize name h mine lack = h
  missing_stop (SnapRefused f) name h mine lack = h
  missing_stop NoMemory name h mine lack = tt

  long_stop : (stop : CommandFault) (name : List ℕ) → StopsAudit (Some files) a before now stop → IsNextOfAudit (Some files) a name → IsLong files name → IsTooLong name (fault_status stop)
  long_stop (TooLong n) name (next, other) mine long = same_next files a n name next mine (too_long files n other) (too_long files name long)
  long_stop (Missing n) name (next, lacks) mine long = not_long files n name (same_next files a n name next mine (lacked files n lacks) (too_long files name long)) lacks long
  long_stop ShelfFault name rose mine long = none rose
  long_stop (ConfigRefused f) name (refused, kept) mine long = rule_read files a name f refused mine (too_long files name long)
  long_stop (ScriptRefused f) name h mine long = h
  long_stop SnapSize name h mine long = h
  long_stop (SnapRefused f) name h mine long = h
  long_stop NoMemory name h mine long = tt

  rule_stop : (stop : CommandFault) (f : ConfigFault) → StopsAudit (Some files) a before now stop → IsConfigRefused (Some files) a.config f → TellsRule f (fault_status stop)
  rule_stop (Missing n) f (next, lacks) refused = rule_read files a n f refused next (lacked files n lacks)
  rule_stop (TooLong n) f (next, long) refused = rule_read files a n f refused next (too_long files n long)
  rule_stop ShelfFault f rose refused = none rose
  rule_stop (ConfigRefused g) f (other, kept) refused = one_rule files a.config g f other refused
  rule_stop (ScriptRefused g) f h refused = h
  rule_stop SnapSize f h refused = h
  rule_stop (SnapRefused g) f h refused = h
  rule_stop NoMemory f h refused = tt

-- the shelf's files are known
stops_told : (o : ShelfAndSink) (files : List File) (a : AuditWords) (stop : CommandFault) → o.files ≡ Some files → StopsAudit o.files a o.shelf o.shelf' stop → StopsAudit (Some files) a o.shelf o.shelf' stop
stops_told o files a stop told why = subst (λ (f : Option (List File)). StopsAudit f a o.shelf o.shelf' stop) told why

-- what was checked is what the shelf holds
module _ (files : List File) (a : AuditWords) (status : Status) (o : ShelfAndSink) (told : o.files ≡ Some files) (p : ChecksAudit a status o) where
  has_told : HasConfig (Some files) a.config p.config
  has_told = subst (λ (f : Option (List File)). HasConfig f a.config p.config) told p.has

  read_told : IsRead (Some files) a.recorded p.bytes
  read_told = subst (λ (f : Option (List File)). IsRead f a.recorded p.bytes) told p.read

  checks_told : (c : Config) (bytes : List ℕ) → HasConfig (Some files) a.config c → IsRead (Some files) a.recorded bytes → Checks c bytes p.result
  checks_told c bytes has read =
      let config : p.config ≡ c = one_config files a.config p.config c has_told has in
      let text : p.bytes ≡ bytes = one_text files a.recorded p.bytes bytes read_told read in
      subst (λ (d : Config). Checks d bytes p.result) config (subst (λ (xs : List ℕ). Checks p.config xs p.result) text p.checks)

accepted : (c : Config) (bytes : List ℕ) (result : Result (Unit {0}) AuditFault) (status : Status) (out out' : Seen) → Checks c bytes result → Audited c bytes → AnswersCheck result status out out' → (Rose out.faults out'.faults → ⊥) → IsServed status
accepted c bytes (Ok _) status out out' checks audited closes kept = closes_served None _ status out out' refl closes kept
accepted c bytes (Err f) status out out' (first, refused) audited answers kept = absurd (refused audited)

bad : (c : Config) (bytes : List ℕ) (result : Result (Unit {0}) AuditFault) (status : Status) (out out' : Seen) → Checks c bytes result → (Audited c bytes → ⊥) → AnswersCheck result status out out' → TellsFirstBad c bytes status
bad c bytes (Ok _) status out out' audited refused closes = absurd (refused audited)
bad c bytes (Err f) status out out' (first, rest) refused (answer, kept) = subst (λ (s : Status). TellsFirstBad c bytes s) (sym answer) first

pub completes_audit : CompletesAudit
completes_audit a status o files c bytes (inl (stops, kept)) told has read audited none =
    subst (λ (s : Status). IsServed s) (sym (stops.is ∙ served_stop files a o.shelf o.shelf' none.shelf stops.stop c bytes (stops_told (shelf_and_sink o) files a stops.stop told stops.why) has read)) tt
completes_audit a status o files c bytes (inr p) told has read audited none =
    accepted c bytes p.result status o.out o.out' (checks_told files a status (shelf_and_sink o) told p c bytes has read) audited p.answers none.out

pub tells_audit_line : TellsAuditLine
tells_audit_line a status o files c bytes (inl (stops, kept)) told has read refused none =
    subst (λ (s : Status). TellsFirstBad c bytes s) (sym (stops.is ∙ served_stop files a o.shelf o.shelf' none stops.stop c bytes (stops_told (shelf_and_sink o) files a stops.stop told stops.why) has read)) tt
tells_audit_line a status o files c bytes (inr p) told has read refused none =
    bad c bytes p.result status o.out o.out' (checks_told files a status (shelf_and_sink o) told p c bytes has read) refused p.answers

pub tells_audit_missing : TellsAuditMissing
tells_audit_missing a status o files name (inl (stops, kept)) told next lacks none = subst (λ (s : Status). IsMissing name s) (sym stops.is) (missing_stop files a o.shelf o.shelf' none stops.stop name (stops_told (shelf_and_sink o) files a stops.stop told stops.why) next lacks)
tells_audit_missing a status o files name (inr p) told next lacks none = absurd (both_read files a name p.config p.bytes (has_told files a status (shelf_and_sink o) told p) (read_told files a status (shelf_and_sink o) told p) next (lacked files name lacks))

pub tells_audit_too_long : TellsAuditTooLong
tells_audit_too_long a status o files name (inl (stops, kept)) told next long none = subst (λ (s : Status). IsTooLong name s) (sym stops.is) (long_stop files a o.shelf o.shelf' none stops.stop name (stops_told (shelf_and_sink o) files a stops.stop told stops.why) next long)
tells_audit_too_long a status o files name (inr p) told next long none = absurd (both_read files a name p.config p.bytes (has_told files a status (shelf_and_sink o) told p) (read_told files a status (shelf_and_sink o) told p) next (too_long files name long))

pub tells_audit_rule : TellsAuditRule
tells_audit_rule a status o files f (inl (stops, kept)) told refused none = subst (λ (s : Status). TellsRule f s) (sym stops.is) (rule_stop files a o.shelf o.shelf' none stops.stop f (stops_told (shelf_and_sink o) files a stops.stop told stops.why) refused)
tells_audit_rule a status o files f (inr p) told refused none = absurd (not_config files a.config p.config f (has_told files a status (shelf_and_sink o) told p) refused)
