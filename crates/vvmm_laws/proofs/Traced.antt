-- The answer of `trace` is one of `solo`, over another output.
use Rattle.std.proofs.Common.{ℕ, ◌≡◌, List, [], ◌∷◌, ◌++◌, take, zero, Bool, true, false, Result, Ok, Err, arith, inl, inr, refl, subst, sym}
use Rattle.sys_runs.specs.Besides.{MissesArePaid}
use Rattle.vv_io.specs.Causes.{Rose}
use Rattle.vv_io.specs.Lines.{Seen, shown_after}
use Rattle.vm_stepping.specs.Made.{tally_of}
use Rattle.sys_devices.specs.ShownSince.{ShownSince}
use Rattle.sys_state.specs.Guests.{powered}
use Rattle.sys_runs.specs.Ran.{Runs}
use Rattle.sys_runs.specs.declared.running.Ran.{Ran}
use Rattle.sys_system.specs.declared.power.PowerFault.{PowerFault}
use Rattle.sys_trace.specs.Trace.{trace_of}
use Rattle.vvmm_call.specs.Answer.{AnswersTrace, FollowsSolo, FollowsTrace, Outside, PlaysTrace, run_outside}
use Rattle.vvmm_files.specs.Solo.{solo_config, solo_guest}
use Rattle.vvmm_call.specs.Summary.{summary}
use Rattle.vvmm_files.specs.Words.{SoloWords}
use Rattle.vvmm_files.specs.declared.status.Status.{Status}
use Rattle.vvmm_laws.proofs.Solos.{completes_solo, tells_solo_device, tells_solo_image, tells_solo_missing, tells_solo_too_long}
use Rattle.vvmm_laws.specs.Complete.{CompletesImage, TellsImageLineFault, TellsImageMisfit, TellsImageMissing, TellsImageTooLong}
use Rattle.vvmm_laws.specs.Traced.{TraceIsSolo}

-- other bytes are put, and the output fails as it did
abbrev Puts : List ℕ → Bool → Seen → Seen → Type 0
Puts bytes cut out out' = (other : Seen) × (other.faults ≡ out'.faults) × ShownSince cut out other bytes

puts_others : (cut : Bool) (out out' : Seen) (bytes others : List ℕ) → ShownSince cut out out' bytes → Puts others cut out out'
puts_others false out out' bytes others (same, shown) = (record { shown = shown_after out.shown others; faults = out'.faults }, refl, (same, refl))
puts_others true out out' bytes others (rose, cut) = (record { shown = shown_after out.shown (take zero others); faults = out'.faults }, refl, (rose, (zero, omega arith, refl)))

-- the summary alone is put
abbrev Told : SoloWords → Status → Outside → Type 0
Told a status o = (out : Seen) × (out.faults ≡ o.out'.faults) × (FollowsSolo MissesArePaid) a status (record o { out' = out })

by_result : (a : SoloWords) (status : Status) (o : Outside) (p : (PlaysTrace MissesArePaid) a status o) (trace : List ℕ) (result : Result Ran PowerFault)
    → (Runs MissesArePaid) (solo_config a) (p.image ∷ []) [] 1 result (run_outside o) → AnswersTrace trace result status o.out o.out' → Told a status o
by_result a status o p trace (Err fault) runs answers = (
  o.out',
  refl,
  inr (record {
    image = p.image;
    read = p.read;
    shelf = p.shelf;
    plays = record { result = Err fault; runs = runs; answers = answers };
    drives = p.drives;
  }),
)
by_result a status o p trace (Ok ran) runs closes =
    let (out, same, shown) = puts_others closes.cut o.out o.out' (trace ++ summary 1 (tally_of ran.counts)) (summary 1 (tally_of ran.counts)) closes.shows in (
      out,
      same,
      inr (record {
        image = p.image;
        read = p.read;
        shelf = p.shelf;
        plays = record { result = Ok ran; runs = runs; answers = record { cut = closes.cut; is = closes.is; shows = shown } };
        drives = p.drives;
      }),
    )

pub trace_is_solo : TraceIsSolo
trace_is_solo a status o (inl (stops, silent)) = (o.out', refl, inl (stops, silent))
trace_is_solo a status o (inr plays) = by_result a status o plays (trace_of a.steps (powered (solo_guest a) plays.image)) plays.result plays.runs plays.answers

-- so what must be given to `solo` must be given to `trace`
pub completes_trace : CompletesImage (FollowsTrace MissesArePaid)
completes_trace a status o image files follows told read fits none =
    let (out, same, solo) = trace_is_solo a status o follows in
    completes_solo a status (record o { out' = out }) image files solo told read fits (record {
      shelf = none.shelf;
      lines = none.lines;
      drives = none.drives;
      out = subst (λ (n : ℕ). Rose o.out.faults n → ⊥) (sym same) none.out;
    })

pub tells_trace_missing : TellsImageMissing (FollowsTrace MissesArePaid)
tells_trace_missing a status o files follows told lacks none =
    let (out, same, solo) = trace_is_solo a status o follows in
    tells_solo_missing a status (record o { out' = out }) files solo told lacks none

pub tells_trace_too_long : TellsImageTooLong (FollowsTrace MissesArePaid)
tells_trace_too_long a status o files follows told long none =
    let (out, same, solo) = trace_is_solo a status o follows in
    tells_solo_too_long a status (record o { out' = out }) files solo told long none

pub tells_trace_image : TellsImageMisfit (FollowsTrace MissesArePaid)
tells_trace_image a status o image files follows told read more none =
    let (out, same, solo) = trace_is_solo a status o follows in
    tells_solo_image a status (record o { out' = out }) image files solo told read more none

pub tells_trace_device : TellsImageLineFault (FollowsTrace MissesArePaid)
tells_trace_device a status o k follows rose =
    let (out, same, solo) = trace_is_solo a status o follows in
    tells_solo_device a status (record o { out' = out }) k solo rose
