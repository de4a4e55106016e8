-- Worked examples of a round in slices, by computation: the steps that each guest takes, and what all slices show and count.
use Rattle.std.specs.Prelude.{◌≡◌, List, [], ◌∷◌, codes, refl, Some, None}
use Rattle.sys_state.specs.Counts.{slices_tally, tally_by}
use Rattle.sys_state.specs.Run.{first_state}
use Rattle.sys_state.specs.ShownRuns.{both_there}
use Rattle.sys_state.specs.ShownSetup.{whole_run}
use Rattle.sys_state.specs.SlicedRound.{sliced_round}
use Rattle.sys_state.specs.Slices.{AreQuanta, Slice, slice_puts}
use Rattle.sys_state.specs.State.{SystemState, bytes_on}
use Rattle.vm_state.specs.Run.{Tally, no_steps}

-- of two guests that take four steps a round, the second in two slices
abbrev pub three_slices : List Slice
three_slices = record { guest = 1; steps = 1 } ∷ record { guest = 0; steps = 4 } ∷ record { guest = 1; steps = 3 } ∷ []

pub each_its_quantum : AreQuanta three_slices 0 both_there.config.guests
each_its_quantum = (refl, (refl, tt))

-- where there is no guest nothing is shown, and no step is counted
pub no_guest : (slice_puts (Some 0) 4 None ≡ []) × (tally_by 4 None ≡ no_steps)
no_guest = (refl, refl)

abbrev begun : SystemState
begun = first_state both_there.config both_there.images []

abbrev tally : Tally
tally = slices_tally three_slices begun.guests

-- the high guest branches to itself four times; the low one shows `A`, halts, and is stopped for two steps
pub steps_of_slices :
    (tally.plain ≡ 4)
    × (tally.sensitive ≡ 2)
    × (tally.stopped ≡ 2)
unfolding whole_run
steps_of_slices = (refl, refl, refl)

-- a round of those slices without events
pub round_of_slices : bytes_on 0 (sliced_round both_there.config 1 [] three_slices begun).puts ≡ codes "A?06 00000208\r\n"
unfolding whole_run
round_of_slices = refl
