-- First touches of the guests' turns, cut into slices.
use Rattle.std.specs.Prelude.{ℕ, List, [], ◌∷◌, Option, None, Some}
use Rattle.std.specs.List.{slice_get}
use Rattle.sys_state.specs.Guests.{alone}
use Rattle.sys_state.specs.Places.{changed}
use Rattle.sys_state.specs.Slices.{Slice}
use Rattle.vm_state.specs.State.{Guest}
use Rattle.vm_state.specs.Touches.{Touching, touching_steps}

-- n steps of a guest, if there is one
abbrev pub touched_as : ℕ → Option Guest → Touching → Touching
touched_as n None t = t
touched_as n (Some g) t = touching_steps n g t

abbrev pub touches_of_slice : Slice → List Guest → List Touching → List Touching
touches_of_slice x gs ts = changed (touched_as x.steps (slice_get gs x.guest)) ts x.guest

abbrev pub touches_of_slices : List Slice → List Guest → List Touching → List Touching
touches_of_slices [] gs ts = ts
touches_of_slices (x ∷ xs) gs ts = touches_of_slices xs (changed (λ g. (alone x.steps g).guest) gs x.guest) (touches_of_slice x gs ts)
