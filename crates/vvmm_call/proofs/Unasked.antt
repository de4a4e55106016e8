-- What is promised of a run with its misses is promised without them.
use Rattle.std.proofs.Common.{ℕ, ◌⊎◌, inl, inr, List, Option, Some, None, Result, Ok, Err}
use Rattle.vv_io.specs.Lines.{Seen}
use Rattle.sys_live.specs.Lives.{Lives, LivesRun}
use Rattle.sys_live.specs.Operator.{Operator}
use Rattle.sys_live.specs.declared.session.Lived.{Lived}
use Rattle.sys_objects.specs.declared.records.Config.{Config}
use Rattle.sys_runs.specs.Besides.{MissesArePaid, NothingMore}
use Rattle.sys_runs.specs.Given.{MakesWith}
use Rattle.sys_runs.specs.Ran.{MakesFrom, MakesRun, RunOutside, Runs}
use Rattle.sys_runs.specs.Saved.{ContinuesRun, ExtendsRun, Saves, SavesFrom, SavesRun}
use Rattle.sys_runs.specs.declared.running.Ran.{Ran}
use Rattle.sys_runs.specs.declared.saving.Saved.{Saved}
use Rattle.sys_script.specs.declared.event.Event.{Event}
use Rattle.sys_state.specs.Run.{Input, Moment}
use Rattle.sys_system.specs.declared.power.PowerFault.{PowerFault}
use Rattle.vv_gen.specs.Workload.{Generated, workload_of}
use Rattle.vvmm_call.specs.Answer.{FollowsExtend, FollowsLive, FollowsLoad, FollowsResume, FollowsRun, FollowsSave, FollowsSolo, FollowsTrace, Outside, PlaysConfiguration, PlaysLoad, Says, run_outside}
use Rattle.vvmm_files.specs.Words.{SoloWords, LiveWords, ResumeWords, RunWords, Wanted}
use Rattle.vvmm_files.specs.Words as words
use Rattle.vvmm_files.specs.declared.status.Status.{Status}

makes_from : (m : Moment) (es : List Event) (n : ℕ) (ran : Ran) (o : RunOutside) → MakesFrom MissesArePaid m es n ran o → MakesFrom NothingMore m es n ran o
makes_from m es n ran o r = record {
  fit = r.fit;
  marks = r.marks;
  drive_marks = r.drive_marks;
  lines = r.lines;
  size = r.size;
  drives = r.drives;
  counts = r.counts;
  few = r.few;
  retires = r.retires;
  also = record {};
  failed = r.failed;
}

makes_run : (x : Input) (ran : Ran) (o : RunOutside) → MakesRun MissesArePaid x ran o → MakesRun NothingMore x ran o
makes_run x ran o r = record { fits = r.fits; loaded = r.loaded; makes = makes_from _ x.events x.rounds ran o r.makes }

runs : (c : Config) (images : List (List ℕ)) (es : List Event) (n : ℕ) (r : Result Ran PowerFault) (o : RunOutside) → Runs MissesArePaid c images es n r o → Runs NothingMore c images es n r o
runs c images es n (Ok ran) o (volumes, made) = (volumes, makes_run _ ran o made)
runs c images es n (Err fault) o down = down

saves_from : (m : Moment) (es : List Event) (n : ℕ) (text : List ℕ) (saved : Saved) (o : RunOutside) (out out' : Seen) → SavesFrom MissesArePaid m es n text saved o out out' → SavesFrom NothingMore m es n text saved o out out'
saves_from m es n text saved o out out' r = record {
  fit = r.fit;
  marks = r.marks;
  lines = r.lines;
  size = r.size;
  drives = r.drives;
  retires = r.retires;
  also = record {};
  failed = r.failed;
  shown = r.shown;
  moment = r.moment;
}

saves_run : (c : Config) (text : List ℕ) (images : List (List ℕ)) (es : List Event) (n : ℕ) (r : Result Saved PowerFault) (o : RunOutside) (out out' : Seen) → SavesRun MissesArePaid c text images es n r o out out' → SavesRun NothingMore c text images es n r o out out'
saves_run c text images es n (Ok saved) o out out' (volumes, made) = (volumes, record { fits = made.fits; loaded = made.loaded; saves = saves_from _ es n text saved o out out' made.saves })
saves_run c text images es n (Err fault) o out out' down = down

continues : (m : Moment) (es : List Event) (n : ℕ) (r : Result Ran PowerFault) (o : RunOutside) → ContinuesRun MissesArePaid m es n r o → ContinuesRun NothingMore m es n r o
continues m es n (Ok ran) o made = makes_from m es n ran o made
continues m es n (Err fault) o down = down

extends_run : (m : Moment) (text : List ℕ) (es : List Event) (n : ℕ) (r : Result Saved PowerFault) (o : RunOutside) (out out' : Seen) → ExtendsRun MissesArePaid m text es n r o out out' → ExtendsRun NothingMore m text es n r o out out'
extends_run m text es n (Ok saved) o out out' made = saves_from m es n text saved o out out' made
extends_run m text es n (Err fault) o out out' down = down

lives : (x : Input) (most : ℕ) (lived : Lived) (o : RunOutside) (p : Operator) (out out' : Seen) → Lives MissesArePaid x most lived o p out out' → Lives NothingMore x most lived o p out out'
lives x most lived o p out out' r = record {
  makes = makes_run x lived.ran o r.makes;
  typed = r.typed;
  ends = r.ends;
  events = r.events;
  means = r.means;
  rounds = r.rounds;
  few = r.few;
  made = r.made;
  cut = r.cut;
  told = r.told;
  shown = r.shown;
  asked = r.asked;
}

lives_run : (c : Config) (images : List (List ℕ)) (most : ℕ) (r : Result Lived PowerFault) (o : RunOutside) (p : Operator) (out out' : Seen) → LivesRun MissesArePaid c images most r o p out out' → LivesRun NothingMore c images most r o p out out'
lives_run c images most (Ok lived) o p out out' (x, config, given, made) = (x, config, given, lives x most lived o p out out' made)
lives_run c images most (Err fault) o p out out' down = down

plays : (c : Config) (images : List (List ℕ)) (es : List Event) (n : ℕ) (status : Status) (o : RunOutside) (out out' : Seen) → PlaysConfiguration MissesArePaid c images es n status o out out' → PlaysConfiguration NothingMore c images es n status o out out'
plays c images es n status o out out' r = record { result = r.result; runs = runs c images es n r.result o r.runs; answers = r.answers }

solo : (a : SoloWords) (status : Status) (o : Outside) → FollowsSolo MissesArePaid a status o → FollowsSolo NothingMore a status o
solo a status o (inl stops) = inl stops
solo a status o (inr r) = inr (record { image = r.image; read = r.read; shelf = r.shelf; plays = plays _ _ _ _ status _ o.out o.out' r.plays; drives = r.drives })

trace : (a : SoloWords) (status : Status) (o : Outside) → FollowsTrace MissesArePaid a status o → FollowsTrace NothingMore a status o
trace a status o (inl stops) = inl stops
trace a status o (inr r) = inr (record { image = r.image; read = r.read; shelf = r.shelf; result = r.result; runs = runs _ _ _ _ r.result _ r.runs; answers = r.answers; drives = r.drives })

run : (a : RunWords) (status : Status) (o : Outside) → FollowsRun MissesArePaid a status o → FollowsRun NothingMore a status o
run a status o (inl stops) = inl stops
run a status o (inr r) = inr (record { config = r.config; events = r.events; images = r.images; has = r.has; shelf = r.shelf; plays = plays _ _ _ _ status _ o.out o.out' r.plays; separate = r.separate })

save : (a : RunWords) (status : Status) (o : Outside) → FollowsSave MissesArePaid a status o → FollowsSave NothingMore a status o
save a status o (inl stops) = inl stops
save a status o (inr r) = inr (record { config = r.config; text = r.text; events = r.events; images = r.images; has = r.has; shelf = r.shelf; result = r.result; saves = saves_run _ _ _ _ _ r.result _ o.out o.out' r.saves; answers = r.answers; separate = r.separate })

resume : (a : ResumeWords) (status : Status) (o : Outside) → FollowsResume MissesArePaid a status o → FollowsResume NothingMore a status o
resume a status o (inl stops) = inl stops
resume a status o (inr r) = inr (record { moment = r.moment; events = r.events; has = r.has; shelf = r.shelf; result = r.result; ends = (continues _ _ _ r.result _ r.ends.0, r.ends.1, r.ends.2) })

extend : (a : ResumeWords) (status : Status) (o : Outside) → FollowsExtend MissesArePaid a status o → FollowsExtend NothingMore a status o
extend a status o (inl stops) = inl stops
extend a status o (inr r) = inr (record { moment = r.moment; events = r.events; has = r.has; shelf = r.shelf; result = r.result; ends = (extends_run _ _ _ _ r.result _ o.out o.out' r.ends.0, r.ends.1, r.ends.2, r.ends.3) })

live : (a : LiveWords) (status : Status) (o : Outside) (p : Operator) → FollowsLive MissesArePaid a status o p → FollowsLive NothingMore a status o p
live a status o p (inl stops) = inl stops
live a status o p (inr r) = inr (record { config = r.config; images = r.images; has = r.has; shelf = r.shelf; result = r.result; shown = r.shown; lives = lives_run _ _ _ r.result _ p o.out r.shown r.lives; answers = r.answers; separate = r.separate })

with_volumes : (x : Input) (ran : Ran) (o : RunOutside) → MakesWith MissesArePaid x ran o → MakesWith NothingMore x ran o
with_volumes x ran o r = record {
  fits = r.fits;
  sizes = r.sizes;
  marks = r.marks;
  lines = r.lines;
  size = r.size;
  drives = r.drives;
  counts = r.counts;
  few = r.few;
  retires = r.retires;
  also = record {};
  failed = r.failed;
}

load : (number : ℕ) (status : Status) (o : RunOutside) (out out' : Seen) → FollowsLoad MissesArePaid number status o out out' → FollowsLoad NothingMore number status o out out'
load number status o out out' (inl free) = inl free
load number status o out out' (inr r) = inr (record { ran = r.ran; made = with_volumes _ r.ran o r.made; closes = r.closes })

pub unasked : (w : Option Wanted) (status : Status) (o : Outside) (p : Operator) → Says MissesArePaid w status o p → Says NothingMore w status o p
unasked None status o p says = says
unasked (Some (words.WantsSolo a)) status o p (follows, untyped) = (solo a status o follows, untyped)
unasked (Some (words.WantsTrace a)) status o p (follows, untyped) = (trace a status o follows, untyped)
unasked (Some (words.WantsRun a)) status o p (follows, untyped) = (run a status o follows, untyped)
unasked (Some (words.WantsSave a)) status o p (follows, untyped) = (save a status o follows, untyped)
unasked (Some (words.WantsResume a)) status o p (follows, untyped) = (resume a status o follows, untyped)
unasked (Some (words.WantsExtend a)) status o p (follows, untyped) = (extend a status o follows, untyped)
unasked (Some (words.WantsLive a)) status o p follows = live a status o p follows
unasked (Some (words.WantsLoad number)) status o p (follows, shelf, untyped) = (load number status (run_outside o) o.out o.out' follows, shelf, untyped)
unasked (Some (words.WantsCheck name)) status o p says = says
unasked (Some (words.WantsMigration name)) status o p says = says
unasked (Some (words.WantsAudit a)) status o p says = says
unasked (Some (words.WantsFlow name)) status o p says = says
unasked (Some (words.WantsDrawing name)) status o p says = says
unasked (Some (words.WantsBytes source)) status o p says = says
unasked (Some (words.WantsListing source)) status o p says = says
unasked (Some (words.WantsText image)) status o p says = says
