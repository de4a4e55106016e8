-- Many rounds, one after another.
use Rattle.std.specs.Prelude.{ℕ, ◌≡◌, ◌+◌, List, false}
use Rattle.vax_hw.specs.Machine.{Machine}
use Rattle.vv_io.specs.Lines.{Seen}
use Rattle.sys_guests.specs.Changes.{Retires}
use Rattle.sys_guests.specs.Present.{PaysAll}
use Rattle.sys_state.specs.Counts.{added, tally_from}
use Rattle.sys_state.specs.FirstTouches.{touches_of_rounds}
use Rattle.sys_state.specs.Run.{rounds_from}
use Rattle.sys_script.specs.declared.event.Event.{Event}
use Rattle.sys_system.specs.Calls.{LeadsToState}
use Rattle.sys_system.specs.System.{System, moment_of, system_state}
use Rattle.vm_stepping.specs.Made.{tally_of}

-- The next n rounds are made, each with its own of these events. First touches count at least what the machine misses.
pub record MakesRounds (n : ℕ) (es : List Event) (m : Machine) (s : System) (lines : List Seen) (m' : Machine) (s' : System) (lines' : List Seen) : Type 0 where
  pub system : s' ≡ record s { connected = s'.connected; mounts = s'.mounts; guests = s'.guests; volumes = s'.volumes; turns = s'.turns; rounds = s.rounds + n; counts = s'.counts; marks = s'.marks }
  pub ended : s'.turns.is_begun ≡ false
  pub goes : LeadsToState (rounds_from (moment_of m.memory s) es n) m s lines m' s' lines'
  pub counts : tally_of s'.counts ≡ added (tally_of s.counts) (tally_from (moment_of m.memory s) es n)
  pub retires : Retires m m' (tally_from (moment_of m.memory s) es n)
  pub pays : PaysAll (touches_of_rounds s.config (s.rounds + 1) n es (system_state m.memory s)) m s.guests m' s'.guests
