-- What a granted command makes of the server's state (profile). Whether the guest itself is reset, stopped or shown is
-- a matter of the guests.
use Rattle.std.specs.Prelude.{ℕ, ◌<◌, List, [], true, false, Option, None, Some, map, position, slice_set, slice_index_or, if◌then◌else◌}
use Rattle.sys_objects.specs.Places.{is_at}
use Rattle.sys_objects.specs.declared.records.Mount.{Mount}
use Rattle.sys_server.specs.declared.command.Command.{Command}
use Rattle.sys_server.specs.declared.command.Command.TheVariants.{Connect, Start, Halt, MountAt, Dismount, Show}
use Rattle.sys_server.specs.declared.command.ServerState.{ServerState}
use Rattle.sys_server.specs.declared.command.Verdict.{Verdict}
use Rattle.sys_server.specs.declared.command.Verdict.TheVariants.{Granted, BadCommand, NoSuchObject, Denied}

-- a terminal that had the guest is with the server again
abbrev pub freed : ℕ → Option ℕ → Option ℕ
freed g place = if is_at g place then None else place

-- what is mounted, by guest and unit, with a mount or none at a unit
abbrev pub with_mount : List (List (Option Mount)) → ℕ → ℕ → Option Mount → List (List (Option Mount))
with_mount mounts g unit mount = slice_set mounts g (slice_set (slice_index_or mounts g []) unit mount)

unfoldable pub applied : ServerState → ℕ → Command → ServerState
applied s terminal (Connect g) = record s { at = slice_set (map (freed g) s.at) terminal (Some g) }
applied s terminal (Start g) = record s { running = slice_set s.running g true }
applied s terminal (Halt g) = record s { running = slice_set s.running g false }
applied s terminal (MountAt g unit mount) = record s { mounts = with_mount s.mounts g unit (Some mount) }
applied s terminal (Dismount g unit) = record s { mounts = with_mount s.mounts g unit None }
applied s terminal Show = s

-- the other terminal that had the guest's console
unfoldable pub taken : ServerState → ℕ → Command → Option ℕ
taken s terminal (Connect g) = position (is_at g) (slice_set s.at terminal None)
taken s terminal command = None

-- the guest and the unit are those of a server's state
abbrev pub HasPlaces : Command → Type 0
HasPlaces (Connect g) = g < 16
HasPlaces (Start g) = g < 16
HasPlaces (Halt g) = g < 16
HasPlaces (MountAt g unit mount) = (g < 16) × (unit < 4)
HasPlaces (Dismount g unit) = (g < 16) × (unit < 4)
HasPlaces Show = Unit {0}

-- what is granted can be applied
abbrev pub MayApply : Verdict → Type 0
MayApply (Granted command) = HasPlaces command
MayApply BadCommand = Unit {0}
MayApply NoSuchObject = Unit {0}
MayApply (Denied rule) = Unit {0}
