-- What the events of a round do: breaks, typed lines, and commands at the secure server (profile, after the secure
-- server of the VAX VMM: Karger and others, A retrospective on the VAX VMM security kernel, IEEE TSE 17(11), 1991).
use Rattle.std.specs.Prelude.{ℕ, Bool, List, [], ◌∷◌, ◌++◌, Option, Some, None, map, option_to_list, bytes_eq, slice_get, slice_index_or, slice_set}
use Rattle.sys_audit.specs.Audit.{audit_record}
use Rattle.sys_objects.specs.declared.records.Audit.{Audit}
use Rattle.sys_objects.specs.declared.records.Config.{Config}
use Rattle.sys_objects.specs.declared.records.GuestRow.{GuestRow}
use Rattle.sys_objects.specs.declared.records.Terminal.{Terminal}
use Rattle.sys_state.specs.Consoles.{console_of, on_console}
use Rattle.sys_state.specs.Guests.{reset, stopped_by_command, typed}
use Rattle.sys_state.specs.Places.{changed, place_of}
use Rattle.sys_state.specs.State.{Put, SystemState, Went, server_of}
use Rattle.sys_script.specs.declared.event.Event.{Event}
use Rattle.sys_script.specs.declared.event.Typed.{Typed}
use Rattle.sys_script.specs.declared.event.Typed.TheVariants.{Break, Line}
use Rattle.sys_server.specs.Apply.{freed, with_mount}
use Rattle.sys_server.specs.Replies.{with_line_end, reply_of, server_text, shown_lines, taken_text}
use Rattle.sys_server.specs.Verdict.{verdict_of}
use Rattle.sys_server.specs.declared.command.Command.{Command}
use Rattle.sys_server.specs.declared.command.Command.TheVariants.{Connect, Start, Halt, MountAt, Dismount, Show}
use Rattle.sys_server.specs.declared.command.Verdict.{Verdict}
use Rattle.sys_server.specs.declared.command.Verdict.TheVariants.{Granted}
use Rattle.vm_state.specs.Outside.{stop_message}
use Rattle.vm_state.specs.State.{Guest}

-- a text of the server on a line
abbrev pub said_on : ℕ → List ℕ → Put
said_on line text = record { line = line; bytes = with_line_end text }

-- START resets the guest, by its row, and it runs
abbrev pub reset_by : Option GuestRow → Guest → Guest
reset_by None g = g
reset_by (Some row) g = reset row g

-- what a guest that is stopped says
abbrev pub message_of : Option Guest → List ℕ
message_of None = []
message_of (Some g) = stop_message g.state

-- where a command leads, and what is shown before its reply and after it
pub record Obeyed : Type 0 where
  pub now : SystemState
  pub before : List Put
  pub later : List Put

abbrev pub silently : SystemState → Obeyed
silently s = record { now = s; before = []; later = [] }

-- a granted command at the terminal of a place. CONNECT: the guest's console moves here, and the terminal that had it is told.
-- START and HALT: the guest runs as one that starts, or stops and says so on its console. SHOW: a put for each line.
abbrev pub obeyed : Config → SystemState → ℕ → Terminal → Command → Obeyed
obeyed c s n t (Connect g) = record (silently (record s { connected = slice_set (map (freed g) s.connected) n (Some g) })) { later = map (λ line. said_on line taken_text) (option_to_list (console_of c.terminals (slice_set s.connected n None) g)) }
obeyed c s n t (Start g) = silently (record s { guests = changed (reset_by (slice_get c.guests g)) s.guests g })
obeyed c s n t (Halt g) = record (silently (record s { guests = changed stopped_by_command s.guests g })) { before = on_console (console_of c.terminals s.connected g) (message_of (slice_get s.guests g)) }
obeyed c s n t (MountAt g unit mount) = silently (record s { mounts = with_mount s.mounts g unit (Some mount) })
obeyed c s n t (Dismount g unit) = silently (record s { mounts = with_mount s.mounts g unit None })
obeyed c s n t Show = record (silently s) { before = map (λ line. record { line = t.line; bytes = line }) (shown_lines c (server_of s) t.class) }

-- any other verdict changes nothing
abbrev pub after_verdict : Config → SystemState → ℕ → Terminal → Verdict → Obeyed
after_verdict c s n t (Granted command) = obeyed c s n t command
after_verdict c s n t refused = silently s

-- each command is audited, after its replies
abbrev pub audit_puts : Option Audit → ℕ → Terminal → List ℕ → Verdict → List Put
audit_puts None round t text v = []
audit_puts (Some a) round t text v = record { line = a.line; bytes = audit_record round t text v } ∷ []

-- a command at the terminal of a place, with the server's verdict
abbrev pub commanded : Config → ℕ → SystemState → ℕ → Terminal → List ℕ → Verdict → Went SystemState
commanded c round s n t text v =
    let done = after_verdict c s n t v in
    record { now = done.now; puts = done.before ++ (said_on t.line (reply_of v) ∷ done.later) ++ audit_puts c.audit round t text v }

-- a line is typed to the guest that the terminal is connected to, and else it is a command
abbrev pub lined : Config → ℕ → SystemState → ℕ → Terminal → List ℕ → Option ℕ → Went SystemState
lined c round s n t text (Some g) = record { now = record s { guests = changed (typed text) s.guests g }; puts = [] }
lined c round s n t text None = commanded c round s n t text (verdict_of c (server_of s) n text)

-- a break disconnects the terminal
abbrev pub typed_at_terminal : Config → ℕ → SystemState → ℕ → Terminal → Typed → Went SystemState
typed_at_terminal c round s n t Break = record { now = record s { connected = slice_set s.connected n None }; puts = said_on t.line server_text ∷ [] }
typed_at_terminal c round s n t (Line text) = lined c round s n t text (slice_index_or s.connected n None)

-- an event of a terminal that doesn't exist has no effect
abbrev pub at_row : Config → ℕ → SystemState → ℕ → Option Terminal → Typed → Went SystemState
at_row c round s n None what = record { now = s; puts = [] }
at_row c round s n (Some t) what = typed_at_terminal c round s n t what

abbrev pub at_place : Config → ℕ → SystemState → Option ℕ → Typed → Went SystemState
at_place c round s None what = record { now = s; puts = [] }
at_place c round s (Some n) what = at_row c round s n (slice_get c.terminals n) what

abbrev pub is_named : List ℕ → Terminal → Bool
is_named name t = bytes_eq t.name name

abbrev pub happened : Config → ℕ → SystemState → Event → Went SystemState
happened c round s e = at_place c round s (place_of (is_named e.terminal) c.terminals) e.what

-- one after another
abbrev pub events : Config → ℕ → SystemState → List Event → Went SystemState
events c round s [] = record { now = s; puts = [] }
events c round s (e ∷ es) =
    let first = happened c round s e in
    let rest = events c round first.now es in
    record { now = rest.now; puts = first.puts ++ rest.puts }
