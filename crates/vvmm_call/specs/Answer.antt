-- Each answer of the top call, and what it says of the outside.
use Rattle.std.specs.Prelude.{ℕ, ◌≡◌, ◌≤◌, ◌+◌, ◌⊎◌, List, [], ◌∷◌, All, Bool, true, false, ◌++◌, Option, Some, None, Result, Ok, Err, codes, pos}
use Rattle.sys_runs.specs.Besides.{Besides}
use Rattle.vv_io.specs.Blocks.{SeenDrive}
use Rattle.vv_io.specs.Lines.{Seen}
use Rattle.vv_io.specs.Shelf.{File}
use Rattle.vasm.specs.Listing.{listing_of}
use Rattle.vasm_text.specs.Asm.{asm_of}
use Rattle.vasm_text.specs.Dis.{dis_of}
use Rattle.vasm_text.specs.declared.fault.AsmFault.{AsmFault}
use Rattle.vvmm_files.specs.Commands.{ShelfAndSink, FollowsFile}
use Rattle.vvmm_files.specs.declared.answer.Answer.{Answer}
use Rattle.vvmm_files.specs.declared.answer.Answer.TheVariants as answers
use Rattle.vax_hw.specs.Machine.{Machine}
use Rattle.vm_stepping.specs.Made.{tally_of}
use Rattle.sys_audit_check.specs.Lines.{Checks}
use Rattle.sys_audit_check.specs.declared.fault.AuditFault.{AuditFault}
use Rattle.sys_config.specs.Config.{config_of}
use Rattle.sys_config.specs.Written.{version_of}
use Rattle.sys_flow.specs.Picture.{drawing_of}
use Rattle.sys_flow.specs.Report.{IsReport}
use Rattle.sys_devices.specs.ShownSince.{ShownSince}
use Rattle.sys_live.specs.Lives.{LivesRun}
use Rattle.sys_live.specs.Operator.{Operator, Untyped}
use Rattle.sys_live.specs.declared.session.Lived.{Lived}
use Rattle.sys_live.specs.declared.typing.Typing.{Typing}
use Rattle.sys_live.specs.declared.typing.Typing.TheVariants.{Broken, Lost}
use Rattle.sys_objects.specs.declared.records.Config.{Config}
use Rattle.sys_purge.specs.Events.{purge_events}
use Rattle.sys_purge.specs.Input.{purged}
use Rattle.sys_purge.specs.Laws.{IsSeparateFrom, shown_on}
use Rattle.sys_purge.specs.Moments.{purged_moment}
use Rattle.sys_state.specs.Bytes.{devices_of, drive_blocks, line_bytes, shown_from}
use Rattle.sys_state.specs.Guests.{powered}
use Rattle.sys_state.specs.Run.{Input, Moment}
use Rattle.sys_runs.specs.Given.{MakesWith}
use Rattle.sys_runs.specs.Ran.{RunOutside, Runs, Untouched}
use Rattle.sys_runs.specs.Saved.{ContinuesRun, ExtendsRun, SavesRun}
use Rattle.sys_runs.specs.declared.running.Ran.{Ran}
use Rattle.sys_runs.specs.declared.saving.Saved.{Saved}
use Rattle.sys_script.specs.declared.event.Event.{Event}
use Rattle.sys_devices.specs.declared.device.Device.{Device}
use Rattle.sys_system.specs.declared.power.PowerFault.{PowerFault}
use Rattle.sys_system.specs.declared.power.PowerFault.TheVariants as faults
use Rattle.sys_trace.specs.Trace.{trace_of}
use Rattle.vv_gen.specs.Workload.{Generated, workload_of}
use Rattle.vvmm_files.specs.Files.{HasAll, HasAllToLive, HasAllToSave, HasBoth, HasConfig, IsRead, StopsAudit, StopsConfig, StopsExtend, StopsFile, StopsLive, StopsResume, StopsRun, StopsSave}
use Rattle.vvmm_files.specs.Solo.{solo_config, solo_guest}
use Rattle.vvmm_call.specs.Summary.{check_line, summary}
use Rattle.vvmm_files.specs.Words.{SoloWords, AuditWords, LiveWords, ResumeWords, RunWords, Wanted, WantsSolo, WantsTrace, WantsRun, WantsSave, WantsResume, WantsExtend, WantsLive, WantsLoad, WantsCheck, WantsMigration, WantsAudit, WantsFlow, WantsDrawing, WantsBytes, WantsListing, WantsText}
use Rattle.vvmm_files.specs.declared.status.Status.{Status}
use Rattle.vvmm_files.specs.declared.status.Status.TheVariants.{Done, Words, Missing, TooLong, ShelfFault, Config as ConfigRefused, Script as ScriptRefused, Image, VolumeSize, DriveIn, DeviceFault, Asm, SnapSize, Snap as SnapRefused, Audit, OutFault, KeyFault, NoMemory}
use Rattle.vvmm_files.specs.declared.stop.CommandFault.{CommandFault}
use Rattle.vvmm_files.specs.declared.stop.CommandFault.TheVariants as stops

-- The outside before and after the call: the shelf's files, where they are known, and its count of faults; the machine; the
-- lines, the drives, and the sink `out`.
pub record Outside : Type 0 where
  pub files : Option (List File)
  pub shelf : ℕ
  pub shelf' : ℕ
  pub machine : Machine
  pub machine' : Machine
  pub lines : List Seen
  pub lines' : List Seen
  pub drives : List SeenDrive
  pub drives' : List SeenDrive
  pub out : Seen
  pub out' : Seen

-- the outside of a run: the machine, the lines and the drives
abbrev pub run_outside : Outside → RunOutside
run_outside o = record { machine = o.machine; machine' = o.machine'; lines = o.lines; lines' = o.lines'; drives = o.drives; drives' = o.drives' }

-- the shelf and the sink
abbrev pub shelf_and_sink : Outside → ShelfAndSink
shelf_and_sink o = record { files = o.files; shelf = o.shelf; shelf' = o.shelf'; out = o.out; out' = o.out' }

-- the lines, the drives and `out` are as before, and so are the machine's counts
pub record Silent (o : Outside) : Type 0 where
  pub run : Untouched (run_outside o)
  pub out : o.out' ≡ o.out

-- the lines, the drives and the machine are as before
pub record Apart (o : Outside) : Type 0 where
  pub lines : o.lines' ≡ o.lines
  pub drives : o.drives' ≡ o.drives
  pub machine : o.machine' ≡ o.machine

-- the answer where a command stops before anything is shown, and where power doesn't come up
abbrev pub fault_status : CommandFault → Status
fault_status (stops.Missing name) = Missing name
fault_status (stops.TooLong name) = TooLong name
fault_status stops.ShelfFault = ShelfFault
fault_status (stops.Config f) = ConfigRefused f
fault_status (stops.Script f) = ScriptRefused f
fault_status stops.SnapSize = SnapSize
fault_status (stops.Snap f) = SnapRefused f
fault_status stops.NoMemory = NoMemory

abbrev pub power_status : PowerFault → Status
power_status (faults.Image guest) = Image guest
power_status (faults.VolumeSize volume) = VolumeSize volume
power_status (faults.DriveIn drive) = DriveIn drive
power_status faults.NoMemory = NoMemory

-- The answer where all was done: a device that failed goes first, then a sink that cut what was put.
abbrev pub status_when_done : Option Device → Bool → Status
status_when_done (Some device) cut = DeviceFault device
status_when_done None true = OutFault
status_when_done None false = Done

-- `out` is shown bytes, whole or cut, and the answer names a device that failed before, or else says whether they are cut
pub record EndsWithPut (failed : Option Device) (bytes : List ℕ) (status : Status) (out out' : Seen) : Type 0 where
  pub cut : Bool
  pub is : status ≡ status_when_done failed cut
  pub shows : ShownSince cut out out' bytes

-- A command stops before anything is shown, for a reason.
pub record Refuses (Why : CommandFault → Type 0) (status : Status) : Type 0 where
  pub stop : CommandFault
  pub is : status ≡ fault_status stop
  pub why : Why stop

-- how a run that was to be made is answered: power doesn't come up, or it is made, and its summary is put
abbrev pub AnswersRun : ℕ → Result Ran PowerFault → Status → Seen → Seen → Type 0
AnswersRun rounds (Err fault) status out out' = (status ≡ power_status fault) × (out' ≡ out)
AnswersRun rounds (Ok ran) status out out' = EndsWithPut ran.failed (summary rounds (tally_of ran.counts)) status out out'

-- A run of this configuration, of these images and events, and its answer.
pub record PlaysConfiguration (Also : Besides) (c : Config) (images : List (List ℕ)) (es : List Event) (rounds : ℕ) (status : Status) (o : RunOutside) (out out' : Seen) : Type 0 where
  pub result : Result Ran PowerFault
  pub runs : Runs Also c images es rounds result o
  pub answers : AnswersRun rounds result status out out'

-- Each device's line gets the bytes that it gets when all whose class doesn't flow into its own was never there, and each
-- volume's drive the blocks.
pub record IsSeparate (x : Input) : Type 0 where
  pub lines : All (λ d. line_bytes (purged x d.class) d.line ≡ line_bytes x d.line) (devices_of x.config)
  pub drives : All (λ v. drive_blocks (purged x v.class) v.drive ≡ drive_blocks x v.drive) x.config.volumes

-- `solo`: the image was fetched, and the guest A runs; the drives are as before
pub record PlaysSolo (Also : Besides) (a : SoloWords) (status : Status) (o : Outside) : Type 0 where
  pub image : List ℕ
  pub read : IsRead o.files a.image image
  pub shelf : o.shelf' ≡ o.shelf
  pub plays : PlaysConfiguration Also (solo_config a) (image ∷ []) [] 1 status (run_outside o) o.out o.out'
  pub drives : o.drives' ≡ o.drives

abbrev pub FollowsSolo : Besides → SoloWords → Status → Outside → Type 0
FollowsSolo Also a status o = (Refuses (StopsFile o.files a.image o.shelf o.shelf') status × Silent o) ⊎ PlaysSolo Also a status o

-- how a run whose steps were to be shown is answered: power doesn't come up, or it is made, and its trace is put, with the summary
-- after it
abbrev pub AnswersTrace : List ℕ → Result Ran PowerFault → Status → Seen → Seen → Type 0
AnswersTrace trace (Err fault) status out out' = (status ≡ power_status fault) × (out' ≡ out)
AnswersTrace trace (Ok ran) status out out' = EndsWithPut ran.failed (trace ++ summary 1 (tally_of ran.counts)) status out out'

-- `trace`: the image was fetched, and the run of `solo` is made; what is put is the trace of the guest A, which steps alone on its
-- private virtual VAX
pub record PlaysTrace (Also : Besides) (a : SoloWords) (status : Status) (o : Outside) : Type 0 where
  pub image : List ℕ
  pub read : IsRead o.files a.image image
  pub shelf : o.shelf' ≡ o.shelf
  pub result : Result Ran PowerFault
  pub runs : Runs Also (solo_config a) (image ∷ []) [] 1 result (run_outside o)
  pub answers : AnswersTrace (trace_of a.steps (powered (solo_guest a) image)) result status o.out o.out'
  pub drives : o.drives' ≡ o.drives

abbrev pub FollowsTrace : Besides → SoloWords → Status → Outside → Type 0
FollowsTrace Also a status o = (Refuses (StopsFile o.files a.image o.shelf o.shelf') status × Silent o) ⊎ PlaysTrace Also a status o

-- `run`: all files were fetched, and the configuration runs. Whatever the drives hold, its devices are separate.
pub record PlaysRun (Also : Besides) (a : RunWords) (status : Status) (o : Outside) : Type 0 where
  pub config : Config
  pub events : List Event
  pub images : List (List ℕ)
  pub has : HasAll o.files a config events images
  pub shelf : o.shelf' ≡ o.shelf
  pub plays : PlaysConfiguration Also config images events a.rounds status (run_outside o) o.out o.out'
  pub separate : (volumes : List (List (List ℕ))) → IsSeparate (record { config = config; images = images; volumes = volumes; events = events; rounds = a.rounds })

abbrev pub FollowsRun : Besides → RunWords → Status → Outside → Type 0
FollowsRun Also a status o = (Refuses (StopsRun o.files a o.shelf o.shelf') status × Silent o) ⊎ PlaysRun Also a status o

-- What its rounds show on each device is what they show when all whose class doesn't flow into its own was never there.
abbrev pub IsShownSeparate : Input → Type 0
IsShownSeparate x = All (λ d. shown_on (purged x d.class) d.line ≡ shown_on x d.line) (devices_of x.config)

-- how a run that was to be saved is answered: power doesn't come up, or its rounds were made, and the snapshot was put
abbrev pub AnswersSave : Result Saved PowerFault → Status → Type 0
AnswersSave (Err fault) status = status ≡ power_status fault
AnswersSave (Ok saved) status = status ≡ status_when_done saved.failed saved.is_cut

-- `save`: all files were fetched, the rounds are made, and the snapshot is put with the fetched text. Whatever the drives hold,
-- its devices are separate.
pub record PlaysSave (Also : Besides) (a : RunWords) (status : Status) (o : Outside) : Type 0 where
  pub config : Config
  pub text : List ℕ
  pub events : List Event
  pub images : List (List ℕ)
  pub has : HasAllToSave o.files a text config events images
  pub shelf : o.shelf' ≡ o.shelf
  pub result : Result Saved PowerFault
  pub saves : SavesRun Also config text images events a.rounds result (run_outside o) o.out o.out'
  pub answers : AnswersSave result status
  pub separate : (volumes : List (List (List ℕ))) → IsShownSeparate (record { config = config; images = images; volumes = volumes; events = events; rounds = a.rounds })

abbrev pub FollowsSave : Besides → RunWords → Status → Outside → Type 0
FollowsSave Also a status o = (Refuses (StopsSave o.files a o.shelf o.shelf') status × Silent o) ⊎ PlaysSave Also a status o

-- A command that goes on from a snapshot: that and the script were fetched, and so it ends, from its moment and with its text.
pub record PlaysFrom (Left : Type 0) (a : ResumeWords) (o : Outside) (Ends : Moment → List ℕ → List Event → Result Left PowerFault → Type 0) : Type 0 where
  pub moment : Moment
  pub events : List Event
  pub has : HasBoth o.files a moment events
  pub shelf : o.shelf' ≡ o.shelf
  pub result : Result Left PowerFault
  pub ends : Ends moment has.snap.is.text events result

-- `resume`: the run goes on, and its summary is put. From the snapshot's moment on its devices are separate.
abbrev pub PlaysResume : Besides → ResumeWords → Status → Outside → Type 0
PlaysResume Also a status o = PlaysFrom Ran a o (λ m text es result. ContinuesRun Also m es a.rounds result (run_outside o) × AnswersRun a.rounds result status o.out o.out' × IsSeparateFrom m es a.rounds)

abbrev pub FollowsResume : Besides → ResumeWords → Status → Outside → Type 0
FollowsResume Also a status o = (Refuses (StopsResume o.files a o.shelf o.shelf') status × Silent o) ⊎ PlaysResume Also a status o

-- From a moment on, what rounds show on each device is what they show when all whose class doesn't flow into its own was taken out
-- of the moment and of the events.
abbrev pub IsShownSeparateFrom : Moment → List Event → ℕ → Type 0
IsShownSeparateFrom m es n = All (λ d. shown_from (purged_moment m d.class) (purge_events m.config es d.class) n d.line ≡ shown_from m es n d.line) (devices_of m.config)

-- `extend`: the run goes on, to a round that a snapshot can have, and is put as one. From its moment on its devices are separate.
abbrev pub PlaysExtend : Besides → ResumeWords → Status → Outside → Type 0
PlaysExtend Also a status o = PlaysFrom Saved a o (λ m text es result. ExtendsRun Also m text es a.rounds result (run_outside o) o.out o.out' × AnswersSave result status × IsShownSeparateFrom m es a.rounds × (m.made + a.rounds ≤ 1000000))

abbrev pub FollowsExtend : Besides → ResumeWords → Status → Outside → Type 0
FollowsExtend Also a status o = (Refuses (StopsExtend o.files a o.shelf o.shelf') status × Silent o) ⊎ PlaysExtend Also a status o

-- the answer where all was done: a device that failed goes first, then what is cut, then that the typing broke off, or that
-- memory ran out for a typed line
abbrev pub live_status : Option Device → Bool → Typing → Status
live_status (Some device) cut typing = DeviceFault device
live_status None true typing = OutFault
live_status None false Broken = KeyFault
live_status None false Lost = NoMemory
live_status None false typing = Done

-- a summary after what was shown, which may be cut; where that was cut nothing more is put
abbrev pub PutsSummary : (was_cut cut : Bool) → List ℕ → Seen → Seen → Type 0
PutsSummary true cut bytes shown out' = (cut ≡ true) × (out' ≡ shown)
PutsSummary false cut bytes shown out' = ShownSince cut shown out' bytes

-- The run was made: after what was shown of its rounds its summary is put, unless that was cut.
pub record ClosesLive (lived : Lived) (status : Status) (shown out' : Seen) : Type 0 where
  pub cut : Bool
  pub is : status ≡ live_status lived.ran.failed cut lived.typing
  pub closes : PutsSummary lived.is_cut cut (summary lived.rounds (tally_of lived.ran.counts)) shown out'

-- how a run that was to be typed is answered: power doesn't come up, or it is made
abbrev pub AnswersLive : Result Lived PowerFault → Status → Seen → Seen → Type 0
AnswersLive (Err fault) status shown out' = (status ≡ power_status fault) × (out' ≡ shown)
AnswersLive (Ok lived) status shown out' = ClosesLive lived status shown out'

-- `live`: configuration and images were fetched, and the run is made as it is typed. Whatever is typed and the drives hold, its
-- devices are separate.
pub record PlaysLive (Also : Besides) (a : LiveWords) (status : Status) (o : Outside) (p : Operator) : Type 0 where
  pub config : Config
  pub images : List (List ℕ)
  pub has : HasAllToLive o.files a config images
  pub shelf : o.shelf' ≡ o.shelf
  pub result : Result Lived PowerFault
  -- what was shown before the summary
  pub shown : Seen
  pub lives : LivesRun Also config images a.rounds result (run_outside o) p o.out shown
  pub answers : AnswersLive result status shown o.out'
  pub separate : (x : Input) → x.config ≡ config → IsSeparate x

abbrev pub FollowsLive : Besides → LiveWords → Status → Outside → Operator → Type 0
FollowsLive Also a status o p = (Refuses (StopsLive o.files a o.shelf o.shelf') status × Silent o × Untyped p) ⊎ PlaysLive Also a status o p

-- `check`, `migrate`, `flow` and `draw`: the configuration was fetched, and bytes in this relation to it are put
pub record ShowsConfig (Bytes : Config → List ℕ → Type 0) (name : List ℕ) (status : Status) (o : ShelfAndSink) : Type 0 where
  pub config : Config
  pub bytes : List ℕ
  pub has : HasConfig o.files name config
  pub shelf : o.shelf' ≡ o.shelf
  pub are : Bytes config bytes
  pub closes : EndsWithPut None bytes status o.out o.out'

abbrev pub FollowsConfig : (Config → List ℕ → Type 0) → List ℕ → Status → ShelfAndSink → Type 0
FollowsConfig Bytes name status o = (Refuses (StopsConfig o.files name o.shelf o.shelf') status × (o.out' ≡ o.out)) ⊎ ShowsConfig Bytes name status o

-- the run of a workload, over its own volumes
abbrev pub workload_input : Generated → Input
workload_input w = record { config = w.config; images = w.images; volumes = w.volumes; events = w.events; rounds = w.rounds }

-- `load`: the run of a workload was made, over its own volumes, and its summary is put
pub record PlaysLoad (Also : Besides) (w : Generated) (status : Status) (o : RunOutside) (out out' : Seen) : Type 0 where
  pub ran : Ran
  pub made : MakesWith Also (workload_input w) ran o
  pub closes : EndsWithPut ran.failed (summary w.rounds (tally_of ran.counts)) status out out'

-- it is the workload of the number; or memory ran out, and the lines, the drives, `out` and the machine's counts are as before
abbrev pub FollowsLoad : Besides → ℕ → Status → RunOutside → Seen → Seen → Type 0
FollowsLoad Also number status o out out' = ((status ≡ NoMemory) × Untouched o × (out' ≡ out)) ⊎ PlaysLoad Also (workload_of number) status o out out'

-- the counts of a configuration
abbrev pub AreCounts : Config → List ℕ → Type 0
AreCounts c bytes = bytes ≡ check_line c

-- a text of version 2 that stands for the same configuration
pub record IsMigrated (c : Config) (bytes : List ℕ) : Type 0 where
  pub same : config_of bytes ≡ Ok c
  pub version : version_of bytes ≡ Some (pos 2)

-- the picture of a configuration
abbrev pub IsDrawing : Config → List ℕ → Type 0
IsDrawing c bytes = bytes ≡ drawing_of c

-- how a check is answered: what was recorded is accepted, and that is put; or the answer names the line
abbrev pub AnswersCheck : Result (Unit {0}) AuditFault → Status → Seen → Seen → Type 0
AnswersCheck (Ok _) status out out' = EndsWithPut None (codes "accepted\n") status out out'
AnswersCheck (Err fault) status out out' = (status ≡ Audit fault) × (out' ≡ out)

-- `audit`: the configuration and what was recorded were fetched, and are checked
pub record ChecksAudit (a : AuditWords) (status : Status) (o : ShelfAndSink) : Type 0 where
  pub config : Config
  pub bytes : List ℕ
  pub result : Result (Unit {0}) AuditFault
  pub has : HasConfig o.files a.config config
  pub read : IsRead o.files a.recorded bytes
  pub shelf : o.shelf' ≡ o.shelf
  pub checks : Checks config bytes result
  pub answers : AnswersCheck result status o.out o.out'

abbrev pub FollowsAudit : AuditWords → Status → ShelfAndSink → Type 0
FollowsAudit a status o = (Refuses (StopsAudit o.files a o.shelf o.shelf') status × (o.out' ≡ o.out)) ⊎ ChecksAudit a status o

-- the answer about a file of this name
abbrev pub status_of : List ℕ → Answer → Status
status_of name answers.Done = Done
status_of name answers.Missing = Missing name
status_of name answers.TooLong = TooLong name
status_of name answers.ShelfFault = ShelfFault
status_of name (answers.Asm f) = Asm f
status_of name answers.OutFault = OutFault
status_of name answers.NoMemory = NoMemory

-- what an answer to a command that shows what a file stands for says, where `made` gives that, or the line that is refused
abbrev pub ShowsFile : (List ℕ → Result (List ℕ) AsmFault) → List ℕ → Status → Outside → Type 0
ShowsFile made name status o = (answer : Answer) × (status ≡ status_of name answer) × FollowsFile made name answer (shelf_and_sink o) × Apart o

-- what an answer says, given what the words ask for; only `live` takes typed lines
abbrev pub Says : Besides → Option Wanted → Status → Outside → Operator → Type 0
Says Also None status o p = (status ≡ Words) × Apart o × (o.out' ≡ o.out) × Untyped p
Says Also (Some (WantsSolo a)) status o p = FollowsSolo Also a status o × Untyped p
Says Also (Some (WantsTrace a)) status o p = FollowsTrace Also a status o × Untyped p
Says Also (Some (WantsRun a)) status o p = FollowsRun Also a status o × Untyped p
Says Also (Some (WantsSave a)) status o p = FollowsSave Also a status o × Untyped p
Says Also (Some (WantsResume a)) status o p = FollowsResume Also a status o × Untyped p
Says Also (Some (WantsExtend a)) status o p = FollowsExtend Also a status o × Untyped p
Says Also (Some (WantsLive a)) status o p = FollowsLive Also a status o p
Says Also (Some (WantsLoad number)) status o p = FollowsLoad Also number status (run_outside o) o.out o.out' × (o.shelf' ≡ o.shelf) × Untyped p
Says Also (Some (WantsCheck name)) status o p = FollowsConfig AreCounts name status (shelf_and_sink o) × Apart o × Untyped p
Says Also (Some (WantsMigration name)) status o p = FollowsConfig IsMigrated name status (shelf_and_sink o) × Apart o × Untyped p
Says Also (Some (WantsAudit a)) status o p = FollowsAudit a status (shelf_and_sink o) × Apart o × Untyped p
Says Also (Some (WantsFlow name)) status o p = FollowsConfig IsReport name status (shelf_and_sink o) × Apart o × Untyped p
Says Also (Some (WantsDrawing name)) status o p = FollowsConfig IsDrawing name status (shelf_and_sink o) × Apart o × Untyped p
Says Also (Some (WantsBytes source)) status o p = ShowsFile asm_of source status o × Untyped p
Says Also (Some (WantsListing source)) status o p = ShowsFile listing_of source status o × Untyped p
Says Also (Some (WantsText image)) status o p = ShowsFile (λ bytes. Ok (dis_of bytes)) image status o × Untyped p
