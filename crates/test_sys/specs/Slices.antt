-- Slices of a whole round.
use Rattle.std.specs.Prelude.{◌<◌, List, length, map, All}
use Rattle.sys_guests.specs.declared.turns.TimeSlice.{TimeSlice}
use Rattle.sys_objects.specs.declared.records.Config.{Config}
use Rattle.sys_state.specs.Slices.{AreQuanta}
use Rattle.sys_system.specs.System.{slice_of_time}

-- slices in which each guest of a configuration takes its quantum
pub record AreSlices (c : Config) (slices : List TimeSlice) : Type 0 where
  pub there : All (λ slice. slice.guest < length c.guests) slices
  pub quanta : AreQuanta (map slice_of_time slices) 0 c.guests
