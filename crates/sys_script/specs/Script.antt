-- A script (profile). Its lines are those of std's `lines`: each ends with a line feed, or with a carriage
-- return and a line feed; the last may lack its end, and a carriage return there is part of it.
use Rattle.std.specs.Prelude.{ℕ, ◌+◌, ◌-◌, ◌^◌, min, List, [], ◌∷◌, Bool, true, ◌==◌, if◌then◌else◌, Result, Ok, Err}
use Rattle.std.specs.Str.Lines.{lines}
use Rattle.sys_script.specs.EventLine.{event_in, ◌>>=◌}
use Rattle.sys_script.specs.declared.event.Event.{Event}
use Rattle.sys_script.specs.declared.event.ScriptFault.{ScriptFault}
use Rattle.sys_script.specs.declared.event.ScriptKind.{ScriptKind}

-- an empty line, and a comment: a line that begins with `#` (35)
abbrev pub is_passed_over : List ℕ → Bool
is_passed_over [] = true
is_passed_over (b ∷ line) = b == 35

-- a fault's kind with the number of its line
abbrev pub at_script_line : {A : Type 0} → ℕ → Result A ScriptKind → Result A ScriptFault
at_script_line number (Ok x) = Ok x
at_script_line number (Err kind) = Err (record { line = number; kind = kind })

abbrev pub in_front : Event → Result (List Event) ScriptFault → Result (List Event) ScriptFault
in_front event events = events >>= λ more. Ok (event ∷ more)

-- the events of lines that are numbered from `number` on, after an event of the round `last`; or the
-- first line that is refused, and why
abbrev pub events_from : ℕ → ℕ → List (List ℕ) → Result (List Event) ScriptFault
events_from number last [] = Ok []
events_from number last (line ∷ more) =
    if is_passed_over line then events_from (number + 1) last more else
    (at_script_line number (event_in last line) >>= λ event. in_front event (events_from (number + 1) event.round more))

-- the events of a script, in its order
unfoldable pub script_of : List ℕ → Result (List Event) ScriptFault
script_of bytes = events_from 1 0 (lines bytes)

-- a fault as it is reported: the line's number, or 2 ^ 32 - 1 from there on
abbrev pub reported_fault : {A : Type 0} → Result A ScriptFault → Result A ScriptFault
reported_fault (Ok x) = Ok x
reported_fault (Err fault) = Err (record { line = min fault.line (2 ^ 32 - 1); kind = fault.kind })
