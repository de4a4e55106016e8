use Rattle.std.proofs.Common.{inl, inr, Some, None}
use Rattle.vvmm_files.specs.Words.{WantsSolo, WantsTrace, WantsRun, WantsSave, WantsResume, WantsExtend, WantsLive, WantsLoad, WantsCheck, WantsMigration, WantsAudit, WantsFlow, WantsDrawing, WantsBytes, WantsListing, WantsText}
use Rattle.vvmm_laws.specs.Others.{LeavesOthers}
use Rattle.vvmm_laws.proofs.others.other_devices_are_left.Goals as goal

leaves : LeavesOthers
leaves None status o p (is, apart, out, untyped) = (apart.lines, apart.drives)
leaves (Some (WantsSolo a)) status o p (inl (stops, silent), untyped) = silent.run.drives
leaves (Some (WantsSolo a)) status o p (inr plays, untyped) = plays.drives
leaves (Some (WantsTrace a)) status o p (inl (stops, silent), untyped) = silent.run.drives
leaves (Some (WantsTrace a)) status o p (inr plays, untyped) = plays.drives
leaves (Some (WantsRun a)) status o p says = tt
leaves (Some (WantsSave a)) status o p says = tt
leaves (Some (WantsResume a)) status o p says = tt
leaves (Some (WantsExtend a)) status o p says = tt
leaves (Some (WantsLive a)) status o p says = tt
leaves (Some (WantsLoad number)) status o p (inl (is, untouched, out), shelf, untyped) = untouched.drives
leaves (Some (WantsLoad number)) status o p (inr plays, shelf, untyped) = plays.made.drives
leaves (Some (WantsCheck name)) status o p (follows, apart, untyped) = (apart.lines, apart.drives)
leaves (Some (WantsMigration name)) status o p (follows, apart, untyped) = (apart.lines, apart.drives)
leaves (Some (WantsAudit a)) status o p (follows, apart, untyped) = (apart.lines, apart.drives)
leaves (Some (WantsFlow name)) status o p (follows, apart, untyped) = (apart.lines, apart.drives)
leaves (Some (WantsDrawing name)) status o p (follows, apart, untyped) = (apart.lines, apart.drives)
leaves (Some (WantsBytes source)) status o p ((answer, is, follows, apart), untyped) = (apart.lines, apart.drives)
leaves (Some (WantsListing source)) status o p ((answer, is, follows, apart), untyped) = (apart.lines, apart.drives)
leaves (Some (WantsText image)) status o p ((answer, is, follows, apart), untyped) = (apart.lines, apart.drives)

pub returns : goal.returns
returns c = leaves
