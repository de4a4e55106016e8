-- Slices of guests that there are.
use Rattle.std.proofs.Common.{ℕ, ◌<◌, List, length, All, subst, sym}
use Rattle.sys_guests.proofs.LaidOut.{placed_long}
use Rattle.sys_guests.specs.Layout.{AreInMachine}
use Rattle.sys_guests.specs.declared.turns.TimeSlice.{TimeSlice}
use Rattle.sys_objects.specs.declared.records.Config.{Config}
use Rattle.test_sys.specs.Slices.{AreSlices}
use Rattle.vm_guest.specs.Kept.{Kept}

pub slices_there : (c : Config) (memory : List ℕ) (ks : List Kept) (slices : List TimeSlice) → AreInMachine c.guests memory ks → AreSlices c slices → All (λ slice. slice.guest < length ks) slices
slices_there c memory ks slices placed h = subst (λ (n : ℕ). All (λ (slice : TimeSlice). slice.guest < n) slices) (sym (placed_long _ _ c.guests ks placed.laid_out)) h.there
