-- That a guest is watched changes nothing: `trace` is answered as `solo` is, over an output that fails where that of `trace`
-- fails, and what it leaves beside the output, `solo` leaves.
use Rattle.std.specs.Prelude.{◌≡◌}
use Rattle.sys_runs.specs.Besides.{MissesArePaid}
use Rattle.vv_io.specs.Lines.{Seen}
use Rattle.vvmm_call.specs.Answer.{FollowsSolo, FollowsTrace, Outside}
use Rattle.vvmm_files.specs.Words.{SoloWords}
use Rattle.vvmm_files.specs.declared.status.Status.{Status}

abbrev pub TraceIsSolo : Type 0
TraceIsSolo = (a : SoloWords) (status : Status) (o : Outside) → (FollowsTrace MissesArePaid) a status o → (out : Seen) × (out.faults ≡ o.out'.faults) × (FollowsSolo MissesArePaid) a status (record o { out' = out })
