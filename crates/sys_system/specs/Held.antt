-- What the code's records stand for.
use Rattle.std.specs.Prelude.{◌≡◌, ◌<◌, length, take, drop, None, IfSome, All}
use Rattle.sys_guests.specs.Kernel.{AreUnits}
use Rattle.sys_system.specs.System.{IsSystem, System}
use Rattle.sys_system.specs.System as systems
use Rattle.sys_system.specs.declared.parts.Parts.{Parts}
use Rattle.sys_system.specs.declared.system.System.TheInside.{Inside}
use Rattle.sys_system.specs.declared.turns.Turns.{Turns}

abbrev pub turns_of : Turns → systems.Turns
turns_of t = record { left = t.left.items; from = t.from; is_begun = t.is_begun }

abbrev pub system_of : Parts → System
system_of s = record {
  config = s.kernel.config;
  connected = take (length s.kernel.config.terminals) s.kernel.server.at;
  mounts = take (length s.kernel.config.guests) s.kernel.server.mounts;
  guests = s.kernel.guests.items;
  volumes = s.volumes;
  turns = turns_of s.turns;
  rounds = s.rounds;
  counts = s.counts;
  marks = s.kernel.marks;
  drives = s.drives;
}

-- The parts are a system's, with places for 32 terminals and 16 guests; beyond the terminals no console is connected.
pub record AreSystemParts (s : Parts) : Type 0 where
  pub system : IsSystem (system_of s)
  pub terminals : length s.kernel.server.at ≡ 32
  pub guests : length s.kernel.server.mounts ≡ 16
  pub consoles : All (λ o. IfSome o (λ g. g < length s.kernel.config.guests)) s.kernel.server.at
  pub beyond : All (λ o. o ≡ None) (drop (length s.kernel.config.terminals) s.kernel.server.at)
  pub mounts : All (AreUnits (length s.kernel.config.volumes)) s.kernel.server.mounts

abbrev pub inside_system : Inside → System
inside_system s = system_of s.parts

abbrev pub HasSystemParts : Inside → Type 0
HasSystemParts s = AreSystemParts s.parts
