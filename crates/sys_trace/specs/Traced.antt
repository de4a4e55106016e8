-- A run of one guest whose steps are shown.
use Rattle.std.specs.Prelude.{ℕ, ◌≡◌, List, [], ◌∷◌, replicate}
use Rattle.sys_runs.specs.Besides.{Besides}
use Rattle.std.specs.declared.result.Result.{Result}
use Rattle.std.specs.declared.result.Result.TheVariants.{Ok, Err}
use Rattle.vv_io.specs.Lines.{Seen}
use Rattle.sys_devices.specs.ShownSince.{ShownSince}
use Rattle.sys_objects.specs.declared.records.Config.{Config}
use Rattle.sys_objects.specs.declared.records.GuestRow.{GuestRow}
use Rattle.sys_state.specs.Guests.{powered}
use Rattle.sys_state.specs.Run.{Input}
use Rattle.sys_state.specs.Slices.{Slice}
use Rattle.sys_runs.specs.Ran.{MakesRun, RunOutside, StaysDown}
use Rattle.sys_system.specs.declared.power.PowerFault.{PowerFault}
use Rattle.sys_trace.specs.Trace.{trace_of}
use Rattle.sys_trace.specs.declared.tracing.Traced.{Traced}

-- n slices of one step of the first guest
abbrev pub single_steps : ℕ → List Slice
single_steps n = replicate n (record { guest = 0; steps = 1 })

-- one guest, with its image, runs for a round, without events and volumes
abbrev pub input_of : Config → List ℕ → Input
input_of c image = record { config = c; images = image ∷ []; volumes = []; events = []; rounds = 1 }

-- The configuration has one guest, of this row, and no volume.
pub record HasOne (c : Config) (row : GuestRow) : Type 0 where
  pub guests : c.guests ≡ row ∷ []
  pub volumes : c.volumes ≡ []

-- The run was made, and is the same as one that isn't watched. On `out` the trace of the guest's turn was shown, or a front of it
-- where `out` failed.
pub record Traces (Also : Besides) (c : Config) (row : GuestRow) (image : List ℕ) (traced : Traced) (o : RunOutside) (out out' : Seen) : Type 0 where
  pub makes : MakesRun Also (input_of c image) traced.ran o
  pub shown : ShownSince traced.is_cut out out' (trace_of row.quantum (powered row image))

-- by its answer: the run was made; or power doesn't come up, and nothing is shown
abbrev pub TracesRun : Besides → Config → GuestRow → List ℕ → Result Traced PowerFault → RunOutside → (out out' : Seen) → Type 0
TracesRun Also c row image (Ok traced) o out out' = Traces Also c row image traced o out out'
TracesRun Also c row image (Err fault) o out out' = StaysDown c (image ∷ []) fault o × (out' ≡ out)
