-- The secure server's arrays, beside the lists of a configuration.
use Rattle.std.specs.Prelude.{ℕ, ◌≡◌, ◌<◌, List, Bool, length, take, drop, Option, None, IfSome, All}
use Rattle.sys_guests.specs.Kernel.{AreUnits}
use Rattle.sys_objects.specs.declared.records.Config.{Config}
use Rattle.sys_server.specs.Apply.{taken}
use Rattle.sys_server.specs.declared.command.Command.{Command}
use Rattle.sys_server.specs.declared.command.Command.TheVariants.{Connect, Start, Halt, MountAt, Dismount, Show}
use Rattle.sys_server.specs.declared.command.ServerState.{ServerState}
use Rattle.sys_server.specs.declared.command.Verdict.{Verdict}
use Rattle.sys_server.specs.declared.command.Verdict.TheVariants.{Granted, BadCommand, NoSuchObject, Denied}

-- 32 terminals, of which those that exist have guests of the configuration, and 16 guests
pub record IsServer (c : Config) (s : ServerState) : Type 0 where
  pub terminals : length s.at ≡ 32
  pub guests : length s.mounts ≡ 16
  pub consoles : All (λ o. IfSome o (λ g. g < length c.guests)) s.at
  pub beyond : All (λ o. o ≡ None) (drop (length c.terminals) s.at)
  pub mounts : All (AreUnits (length c.volumes)) s.mounts

-- what of it belongs to terminals and guests that exist
abbrev pub seated : Config → ServerState → List Bool → ServerState
seated c s running = record { at = take (length c.terminals) s.at; mounts = take (length c.guests) s.mounts; running = running }

-- the guest of a command is one of the configuration, and so is the volume
abbrev pub Names : Config → Command → Type 0
Names c (Connect g) = g < length c.guests
Names c (Start g) = g < length c.guests
Names c (Halt g) = g < length c.guests
Names c (MountAt g unit mount) = (g < length c.guests) × (mount.volume < length c.volumes)
Names c (Dismount g unit) = g < length c.guests
Names c Show = Unit {0}

abbrev pub VerdictNames : Config → Verdict → Type 0
VerdictNames c (Granted command) = Names c command
VerdictNames c BadCommand = Unit {0}
VerdictNames c NoSuchObject = Unit {0}
VerdictNames c (Denied rule) = Unit {0}

-- the other terminal whose console a verdict takes
abbrev pub took : ServerState → ℕ → Verdict → Option ℕ
took s n (Granted command) = taken s n command
took s n refused = None
