-- What the server shows (profile): its replies, which depend on the kind of the verdict alone, and the lines of SHOW.
-- Each is followed by a carriage return and a line feed.
use Rattle.std.specs.Prelude.{ℕ, List, [], ◌∷◌, ◌++◌, codes, Bool, true, false, filter, map, if◌then◌else◌}
use Rattle.vv_class.specs.declared.class.AccessClass.{AccessClass}
use Rattle.vv_class.specs.Class.{does_flow}
use Rattle.vv_class.specs.Text.{class_text}
use Rattle.sys_objects.specs.declared.records.Config.{Config}
use Rattle.sys_objects.specs.declared.records.GuestRow.{GuestRow}
use Rattle.sys_objects.specs.declared.records.PrinterRow.{PrinterRow}
use Rattle.sys_objects.specs.declared.records.VolumeRow.{VolumeRow}
use Rattle.sys_server.specs.declared.command.Rule.TheVariants.{Equal, Write}
use Rattle.sys_server.specs.declared.command.ServerState.{ServerState}
use Rattle.sys_server.specs.declared.command.Verdict.{Verdict}
use Rattle.sys_server.specs.declared.command.Verdict.TheVariants.{Granted, BadCommand, NoSuchObject, Denied}

abbrev pub reply_of : Verdict → List ℕ
reply_of (Granted command) = codes "OK"
reply_of BadCommand = codes "BAD COMMAND"
reply_of NoSuchObject = codes "NO SUCH OBJECT"
reply_of (Denied Equal) = codes "DENIED EQUAL"
reply_of (Denied Write) = codes "DENIED WRITE"

-- to a break, and to a terminal whose console was taken
abbrev pub server_text : List ℕ
server_text = codes "SERVER"

abbrev pub taken_text : List ℕ
taken_text = codes "CONSOLE TAKEN"

abbrev pub with_line_end : List ℕ → List ℕ
with_line_end text = text ++ 13 ∷ 10 ∷ []

-- an object with its name and class
abbrev pub object_text : List ℕ → List ℕ → AccessClass → List ℕ
object_text kind name class = kind ++ codes " " ++ name ++ codes " " ++ class_text class

abbrev pub running_text : Bool → List ℕ
running_text true = codes " RUNNING"
running_text false = codes " STOPPED"

-- a line for each guest that the class sees, where `running` is beside the guests
abbrev pub guest_lines : AccessClass → List GuestRow → List Bool → List (List ℕ)
guest_lines class (g ∷ guests) (runs ∷ running) =
    if does_flow g.class class then with_line_end (object_text (codes "VM") g.name g.class ++ running_text runs) ∷ guest_lines class guests running
    else guest_lines class guests running
guest_lines class _ _ = []

abbrev pub volume_line : VolumeRow → List ℕ
volume_line v = with_line_end (object_text (codes "VOLUME") v.name v.class)

abbrev pub printer_line : PrinterRow → List ℕ
printer_line p = with_line_end (object_text (codes "PRINTER") p.name p.class)

-- what SHOW puts at a terminal of the class, line by line, before its reply
abbrev pub shown_lines : Config → ServerState → AccessClass → List (List ℕ)
shown_lines c s class =
    guest_lines class c.guests s.running
    ++ map volume_line (filter (λ v. does_flow v.class class) c.volumes)
    ++ map printer_line (filter (λ p. does_flow p.class class) c.printers)
