-- What is noted of a step that is watched.
use Rattle.std.proofs.Common.{◌≡◌, ◌≤◌, [], length, arith, Option, Some, None}
use Rattle.std.specs.Prelude.{IfSome}
use Rattle.sys_guests.specs.Changes.{shown_in}
use Rattle.sys_state.specs.Counts.{tally_by}
use Rattle.sys_system.specs.Watched.{DescribesStep}
use Rattle.sys_system.specs.declared.watching.Watched.{Watched}
use Rattle.vm_exception.specs.Noted.{note_of}
use Rattle.vm_state.proofs.Steps.{shows_few}
use Rattle.vm_state.specs.Run.{no_steps}
use Rattle.vm_state.specs.State.{Guest}
use Rattle.vm_stepping.specs.Made.{tally_of}

-- one step shows at most 14 bytes
pub few_shown : (o : Option Guest) → length (shown_in 1 o) ≤ 14
few_shown None = omega arith
few_shown (Some g) = shows_few 1 (record { guest = g; shown = []; tally = no_steps })

pub tells : (o : Option Guest) (w : Watched) → tally_of w.counts ≡ tally_by 1 o → IfSome o (λ g. w.note ≡ note_of g) → w.shown ≡ shown_in 1 o → IfSome o (λ g. DescribesStep g w)
tells None w counts note shown = tt
tells (Some g) w counts note shown = record { kind = counts; note = note; shown = shown }
