-- Worked examples of HALT, by computation: a guest that runs stops with the operator's code and says so, and one that has
-- stopped stays so.
use Rattle.std.specs.Prelude.{◌≡◌, [], codes, true, false, refl, Some, None}
use Rattle.std.specs.Fmt.{digits}
use Rattle.sys_state.specs.Guests.{powered, stopped_by_command}
use Rattle.sys_state.specs.ShownSetup.{guest}
use Rattle.vm_state.specs.Outside.{stop_message}
use Rattle.vm_state.specs.Start.{memory_with_image}
use Rattle.vm_state.specs.State.{Guest}

-- a guest of one page at power-up, which runs or has stopped with code 00
abbrev pub running : Guest
running = powered (guest (codes "A") 0 1 1 true None) []

abbrev pub standing : Guest
standing = powered (guest (codes "A") 0 1 1 false None) []

pub one_that_runs : ((stopped_by_command running).state.halt ≡ Some 2) × (stop_message running.state ≡ codes "?02 00000200\r\n")
unfolding memory_with_image digits
one_that_runs = (refl, refl)

pub one_that_stands : ((stopped_by_command standing).state.halt ≡ Some 0) × (stop_message standing.state ≡ [])
unfolding memory_with_image digits
one_that_stands = (refl, refl)
