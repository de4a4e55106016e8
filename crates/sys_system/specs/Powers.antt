-- A system that begins at a moment, and so at power-up.
use Rattle.std.specs.Prelude.{ℕ, ◌≡◌, List, length, replicate, false}
use Rattle.vax_hw.specs.Machine.{Machine}
use Rattle.sys_objects.specs.declared.records.Config.{Config}
use Rattle.sys_system.specs.System.{IsInMachine, System, Turns, system_state}
use Rattle.sys_state.specs.Run.{Moment, first_moment}
use Rattle.vm_stepping.specs.Made.{no_counts}

-- no guest has steps left, and no round is begun
abbrev pub no_turns : ℕ → Turns
no_turns guests = record { left = replicate guests 0; from = 0; is_begun = false }

-- The state is that of the moment, and so is the number of rounds made before; no round is begun, nothing is counted, and no
-- device is marked.
pub record IsAt (m : Moment) (m' : Machine) (s : System) : Type 0 where
  pub system : s ≡ record { config = m.config; connected = m.state.connected; mounts = m.state.mounts; guests = s.guests; volumes = m.state.volumes; turns = no_turns (length m.config.guests); rounds = m.made; counts = no_counts; marks = replicate 32 false; drives = replicate 16 false }
  pub state : system_state m'.memory s ≡ m.state
  pub stands : IsInMachine m'.memory s

-- the first state of a run with these images and volumes
abbrev pub IsPowered : Config → List (List ℕ) → List (List (List ℕ)) → Machine → System → Type 0
IsPowered c images volumes m' s = IsAt (first_moment c images volumes) m' s
