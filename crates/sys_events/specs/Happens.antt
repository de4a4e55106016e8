-- What the events of a round make of the machine, the kernel and the lines, whatever is on the volumes.
use Rattle.std.specs.Prelude.{ℕ, List, [], Option, Some, None, slice_get}
use Rattle.vax_hw.specs.Machine.{Machine}
use Rattle.vv_io.specs.Lines.{Seen}
use Rattle.sys_guests.specs.Kernel.{IsKernel, Leads, Scene, kernel_state, scene}
use Rattle.sys_guests.specs.Layout.{guests_in}
use Rattle.sys_guests.specs.Present.{KeepsAll}
use Rattle.sys_guests.specs.declared.kernel.Kernel.{Kernel}
use Rattle.sys_objects.specs.declared.records.Config.{Config}
use Rattle.sys_objects.specs.declared.records.Terminal.{Terminal}
use Rattle.sys_state.specs.Events.{after_verdict, at_row, commanded, events, happened, message_of, reset_by}
use Rattle.sys_state.specs.Consoles.{console_of, on_console}
use Rattle.sys_state.specs.FirstTouches.{typing_starts, with_reset}
use Rattle.sys_state.specs.Guests.{stopped_by_command, typed}
use Rattle.sys_state.specs.Places.{changed}
use Rattle.sys_state.specs.State.{Put, SystemState, Went, server_of}
use Rattle.sys_script.specs.declared.event.Event.{Event}
use Rattle.sys_script.specs.declared.event.Typed.TheVariants.{Break, Line}
use Rattle.sys_server.specs.Apply.{applied}
use Rattle.sys_server.specs.Verdict.{verdict_of}
use Rattle.sys_server.specs.declared.command.Command.{Command}
use Rattle.sys_server.specs.declared.command.Command.TheVariants.{Start, Halt}
use Rattle.sys_server.specs.declared.command.Verdict.{Verdict}
use Rattle.sys_server.specs.declared.command.Verdict.TheVariants.{Granted}
use Rattle.vm_state.specs.State.{Guest}

-- it leads to what f makes of the state
abbrev pub Does : (f : SystemState → Went SystemState) (before after : Scene) → Type 0
Does f before after = (volumes : List (List (List ℕ))) → Leads (f (kernel_state before.machine.memory before.kernel volumes)) before after volumes

-- it does so in every machine in which the kernel is, and leaves that as it was
abbrev pub DoesAnywhere : (f : SystemState → Went SystemState) (k : Kernel) (lines : List Seen) (k' : Kernel) (lines' : List Seen) → Type 0
DoesAnywhere f k lines k' lines' = (m : Machine) → IsKernel m.memory k → Does f (scene m k lines) (scene m k' lines')

-- and the lines too
abbrev pub DoesUnseen : (f : SystemState → Went SystemState) (k k' : Kernel) → Type 0
DoesUnseen f k k' = (lines : List Seen) → DoesAnywhere f k lines k' lines

-- a round's events, one after another, and one of them
abbrev pub Happen : (round : ℕ) (es : List Event) (before after : Scene) → Type 0
Happen round es before after = Does (λ s. events before.kernel.config round s es) before after

abbrev pub Happens : (round : ℕ) (e : Event) (before after : Scene) → Type 0
Happens round e before after = Does (λ s. happened before.kernel.config round s e) before after

-- what is present of each guest has entries after as before, but for what the reset of a guest that starts, if one does, drops
abbrev pub KeepsButReset : (starts : Option ℕ) (m' : Machine) (k k' : Kernel) → Type 0
KeepsButReset starts m' k k' = KeepsAll (with_reset starts (guests_in m'.memory k'.guests.items)) k.guests.items k'.guests.items

-- a break and a line at the terminal of a place
abbrev pub break_at : Config → ℕ → ℕ → SystemState → Went SystemState
break_at c round n s = at_row c round s n (slice_get c.terminals n) Break

abbrev pub typed_line_at : Config → ℕ → ℕ → List ℕ → SystemState → Went SystemState
typed_line_at c round n text s = at_row c round s n (slice_get c.terminals n) (Line text)

-- the guest that such a line starts
abbrev pub line_starts_at : Config → SystemState → ℕ → List ℕ → Option ℕ
line_starts_at c s n text = typing_starts c s n (Line text)

-- a line that is a command
abbrev pub asked_at_row : Config → ℕ → ℕ → List ℕ → SystemState → Option Terminal → Went SystemState
asked_at_row c round n text s None = record { now = s; puts = [] }
asked_at_row c round n text s (Some t) = commanded c round s n t text (verdict_of c (server_of s) n text)

abbrev pub asked_at : Config → ℕ → ℕ → List ℕ → SystemState → Went SystemState
asked_at c round n text s = asked_at_row c round n text s (slice_get c.terminals n)

-- what a granted command makes of the guests; only START and HALT do
abbrev pub guests_by : Config → Command → List Guest → List Guest
guests_by c (Start g) gs = changed (reset_by (slice_get c.guests g)) gs g
guests_by c (Halt g) gs = changed stopped_by_command gs g
guests_by c command gs = gs

-- what a verdict makes of consoles, mounts and guests
abbrev pub state_after : Config → ℕ → Verdict → SystemState → SystemState
state_after c n (Granted command) s = record s { connected = (applied (server_of s) n command).at; mounts = (applied (server_of s) n command).mounts; guests = guests_by c command s.guests }
state_after c n refused s = s

-- what is shown before the reply
abbrev pub shown_before : Config → SystemState → ℕ → Option Terminal → Verdict → List Put
shown_before c s n None v = []
shown_before c s n (Some t) v = (after_verdict c s n t v).before

-- a verdict is carried out, up to its reply
abbrev pub verdict_carried_out : Config → ℕ → Verdict → SystemState → Went SystemState
verdict_carried_out c n v s = record { now = state_after c n v s; puts = shown_before c s n (slice_get c.terminals n) v }

-- what a granted command makes of the guests, with what is shown before the reply
abbrev pub guests_obeyed : Config → ℕ → Command → SystemState → Went SystemState
guests_obeyed c n command s = record { now = record s { guests = guests_by c command s.guests }; puts = shown_before c s n (slice_get c.terminals n) (Granted command) }

-- what it makes of consoles and mounts
abbrev pub server_obeyed : ℕ → Command → SystemState → Went SystemState
server_obeyed n command s = record { now = record s { connected = (applied (server_of s) n command).at; mounts = (applied (server_of s) n command).mounts }; puts = [] }

-- a line is typed to a guest; a guest is stopped
abbrev pub guest_typed : ℕ → List ℕ → SystemState → Went SystemState
guest_typed g text s = record { now = record s { guests = changed (typed text) s.guests g }; puts = [] }

abbrev pub guest_halted : Config → ℕ → SystemState → Went SystemState
guest_halted c g s = record { now = record s { guests = changed stopped_by_command s.guests g }; puts = on_console (console_of c.terminals s.connected g) (message_of (slice_get s.guests g)) }
