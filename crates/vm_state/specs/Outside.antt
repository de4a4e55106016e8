-- What is done to a guest from outside: a line is typed, an operator's command stops it, a transfer moves bytes (profile).
use Rattle.std.specs.Prelude.{ℕ, List, [], ◌∷◌, ◌++◌, take, drop, Some, is_some, if◌then◌else◌}
use Rattle.vm_console.specs.Console.{ConsoleState, after_typed}
use Rattle.vm_state.specs.State.{Guest, State, pc_of}
use Rattle.vm_state.specs.Stops.{Commanded, stop_code, stop_text}
use Rattle.vv_base.specs.Bytes.{overwritten}

-- typed bytes wait, as far as they fit
abbrev pub all_typed : List ℕ → ConsoleState → ConsoleState
all_typed [] console = console
all_typed (b ∷ bs) console = all_typed bs (after_typed console b)

-- a line is typed, with a carriage return after it
abbrev pub with_line : List ℕ → State → State
with_line text s = record s { console = all_typed (text ++ 13 ∷ []) s.console }

-- HALT: one that runs stops with the operator's code, and says so; one that has stopped stays
abbrev pub commanded_to_stop : State → State
commanded_to_stop s = if is_some s.halt then s else record s { halt = Some (stop_code Commanded) }

abbrev pub stop_message : State → List ℕ
stop_message s = if is_some s.halt then [] else stop_text (stop_code Commanded) (pc_of s)

-- bytes of its memory, and others in their place
abbrev pub bytes_at : Guest → (at size : ℕ) → List ℕ
bytes_at g at size = take size (drop at g.memory)

abbrev pub with_bytes : ℕ → List ℕ → Guest → Guest
with_bytes at bytes g = record g { memory = overwritten g.memory at bytes }
