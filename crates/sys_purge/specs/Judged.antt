-- The server's answers when all that doesn't flow into a class was never there: the same, with places among what is
-- kept.
use Rattle.std.specs.Prelude.{ℕ, ◌≡◌, List, Bool, true, Some, map, option_map, slice_get}
use Rattle.vv_class.specs.declared.class.AccessClass.{AccessClass}
use Rattle.vv_class.specs.Class.{does_flow}
use Rattle.sys_objects.specs.declared.records.Config.{Config}
use Rattle.sys_objects.specs.declared.records.Terminal.{Terminal}
use Rattle.sys_purge.specs.Input.{beside, is_kept}
use Rattle.sys_purge.specs.Purge.{mount_place, purge_config, rank, renumbered_mount}
use Rattle.sys_server.specs.Verdict.{verdict_of}
use Rattle.sys_server.specs.declared.command.Command.{Command}
use Rattle.sys_server.specs.declared.command.Command.TheVariants.{Connect, Start, Halt, MountAt, Dismount, Show}
use Rattle.sys_server.specs.declared.command.ServerState.{ServerState}
use Rattle.sys_server.specs.declared.command.Verdict.{Verdict}
use Rattle.sys_server.specs.declared.command.Verdict.TheVariants.{Granted, BadCommand, NoSuchObject, Denied}

abbrev pub is_kept_terminal : AccessClass → Terminal → Bool
is_kept_terminal to t = does_flow t.class to

-- the place of a guest among those that are kept
abbrev pub guest_rank : Config → AccessClass → ℕ → ℕ
guest_rank c to g = rank (is_kept to) c.guests g

abbrev pub moved_command : Config → AccessClass → Command → Command
moved_command c to (Connect g) = Connect (guest_rank c to g)
moved_command c to (Start g) = Start (guest_rank c to g)
moved_command c to (Halt g) = Halt (guest_rank c to g)
moved_command c to (MountAt g unit mount) = MountAt (guest_rank c to g) unit (renumbered_mount to c.volumes mount)
moved_command c to (Dismount g unit) = Dismount (guest_rank c to g) unit
moved_command c to Show = Show

abbrev pub moved_verdict : Config → AccessClass → Verdict → Verdict
moved_verdict c to (Granted command) = Granted (moved_command c to command)
moved_verdict c to BadCommand = BadCommand
moved_verdict c to NoSuchObject = NoSuchObject
moved_verdict c to (Denied rule) = Denied rule

-- the server's state of what is kept, as long as the lists of kept rows
abbrev pub purged_state : Config → AccessClass → ServerState → ServerState
purged_state c to s = record {
  at = map (option_map (guest_rank c to)) (beside (is_kept_terminal to) c.terminals s.at);
  mounts = map (map (mount_place to c.volumes)) (beside (is_kept to) c.guests s.mounts);
  running = beside (is_kept to) c.guests s.running;
}

abbrev pub KeepsVerdicts : Type 0
KeepsVerdicts = (c : Config) (to : AccessClass) (s : ServerState) (n : ℕ) (t : Terminal) (text : List ℕ) → slice_get c.terminals n ≡ Some t → does_flow t.class to ≡ true
    → verdict_of (purge_config c to) (purged_state c to s) (rank (is_kept_terminal to) c.terminals n) text ≡ moved_verdict c to (verdict_of c s n text)
