-- What the server answers to a line (profile): the first case that applies. A terminal sees the objects whose class
-- flows into its own; others are to it as those that don't exist.
use Rattle.std.specs.Prelude.{ℕ, List, [], Bool, not, ◌&&◌, Option, None, Some, position, slice_get, slice_index_or, bytes_eq, if◌then◌else◌}
use Rattle.vv_class.specs.declared.class.AccessClass.{AccessClass}
use Rattle.vv_class.specs.Class.{does_flow}
use Rattle.sys_objects.specs.declared.records.Config.{Config}
use Rattle.sys_objects.specs.declared.records.GuestRow.{GuestRow}
use Rattle.sys_objects.specs.declared.records.Mount.{Mount as Mounted}
use Rattle.sys_objects.specs.declared.records.Terminal.{Terminal}
use Rattle.sys_objects.specs.declared.records.VolumeRow.{VolumeRow}
use Rattle.sys_objects.specs.Rules.{same_class}
use Rattle.sys_server.specs.declared.command.NamedCommand.{NamedCommand}
use Rattle.sys_server.specs.declared.command.NamedCommand.TheVariants.{Connect, Start, Halt, Mount, Dismount, Show}
use Rattle.sys_server.specs.declared.command.Command.{Command}
use Rattle.sys_server.specs.declared.command.Command.TheVariants as to
use Rattle.sys_server.specs.declared.command.Rule.TheVariants.{Equal, Write}
use Rattle.sys_server.specs.declared.command.ServerState.{ServerState}
use Rattle.sys_server.specs.declared.command.Verdict.{Verdict}
use Rattle.sys_server.specs.declared.command.Verdict.TheVariants.{Granted, BadCommand, NoSuchObject, Denied}
use Rattle.sys_server.specs.CommandLine.{asked_in}

-- the place of the guest of a name that the class sees, and of the volume
abbrev pub visible_guest_place : List GuestRow → AccessClass → List ℕ → Option ℕ
visible_guest_place guests class name = position (λ g. bytes_eq g.name name && does_flow g.class class) guests

abbrev pub visible_volume_place : List VolumeRow → AccessClass → List ℕ → Option ℕ
visible_volume_place volumes class name = position (λ v. bytes_eq v.name name && does_flow v.class class) volumes

-- a command on a guest is granted where the guest is of the terminal's class
abbrev pub on_row : AccessClass → Option GuestRow → Command → Verdict
on_row class None command = NoSuchObject
on_row class (Some g) command = if same_class g.class class then Granted command else Denied Equal

abbrev pub on_guest : List GuestRow → AccessClass → Option ℕ → (ℕ → Command) → Verdict
on_guest guests class None command = NoSuchObject
on_guest guests class (Some g) command = on_row class (slice_get guests g) (command g)

-- a mount, of a guest and a volume that are both seen; one that writes needs a volume of the terminal's class too
abbrev pub on_rows : AccessClass → Bool → Option GuestRow → Option VolumeRow → Command → Verdict
on_rows class write (Some g) (Some v) command =
    if not (same_class g.class class) then Denied Equal else
    if write && not (same_class v.class class) then Denied Write else Granted command
on_rows class write _ _ command = NoSuchObject

abbrev pub on_mount : Config → AccessClass → Option ℕ → ℕ → Option ℕ → Bool → Verdict
on_mount c class (Some g) unit (Some v) write =
    on_rows class write (slice_get c.guests g) (slice_get c.volumes v) (to.MountAt g unit (record { volume = v; write = write }))
on_mount c class _ unit _ write = NoSuchObject

-- what is at a guest's unit
abbrev pub mount_at : ServerState → ℕ → ℕ → Option Mounted
mount_at s g unit = slice_index_or (slice_index_or s.mounts g []) unit None

-- a granted dismount of an empty unit finds nothing there
abbrev pub unless_empty : Option Mounted → Verdict → Verdict
unless_empty None (Granted command) = NoSuchObject
unless_empty mount verdict = verdict

abbrev pub on_dismount : Config → ServerState → AccessClass → Option ℕ → ℕ → Verdict
on_dismount c s class None unit = NoSuchObject
on_dismount c s class (Some g) unit = unless_empty (mount_at s g unit) (on_row class (slice_get c.guests g) (to.Dismount g unit))

unfoldable pub judged : Config → ServerState → AccessClass → NamedCommand → Verdict
judged c s class (Connect vm) = on_guest c.guests class (visible_guest_place c.guests class vm) to.Connect
judged c s class (Start vm) = on_guest c.guests class (visible_guest_place c.guests class vm) to.Start
judged c s class (Halt vm) = on_guest c.guests class (visible_guest_place c.guests class vm) to.Halt
judged c s class (Mount vm unit volume write) = on_mount c class (visible_guest_place c.guests class vm) unit (visible_volume_place c.volumes class volume) write
judged c s class (Dismount vm unit) = on_dismount c s class (visible_guest_place c.guests class vm) unit
judged c s class Show = Granted to.Show

-- a line of another form is no command
abbrev pub judged_line : Config → ServerState → AccessClass → Option NamedCommand → Verdict
judged_line c s class None = BadCommand
judged_line c s class (Some asked) = judged c s class asked

-- the answer at a terminal of the configuration
abbrev pub judged_at : Config → ServerState → Option Terminal → List ℕ → Verdict
judged_at c s None text = BadCommand
judged_at c s (Some t) text = judged_line c s t.class (asked_in text)

abbrev pub verdict_of : Config → ServerState → ℕ → List ℕ → Verdict
verdict_of c s terminal text = judged_at c s (slice_get c.terminals terminal) text
