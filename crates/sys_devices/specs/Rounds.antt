-- What an operator is shown of rounds: after each one what its terminals were shown in it.
use Rattle.std.specs.Prelude.{ℕ, zero, suc, List, [], ◌++◌, drop, flat_map, length, take}
use Rattle.sys_objects.specs.declared.records.Terminal.{Terminal}
use Rattle.sys_state.specs.Bytes.{shown_from}
use Rattle.sys_state.specs.Run.{Moment}
use Rattle.sys_script.specs.declared.event.Event.{Event}
use Rattle.sys_devices.specs.Echo.{echo_of}

-- all terminals in the configuration's order, given what each line was shown
abbrev pub echo_all : List Terminal → (ℕ → List ℕ) → List ℕ
echo_all terminals shown = flat_map (λ t. echo_of t.name (shown t.line)) terminals

-- what a line took in n rounds from a moment on: what it is to show, or the first `all` bytes of it, where it took no more
abbrev pub taken_after : ℕ → Moment → List Event → ℕ → ℕ → List ℕ
taken_after all m es n line = take all (shown_from m es n line)

-- what it takes in the round after these
abbrev pub taken_next : ℕ → Moment → List Event → ℕ → ℕ → List ℕ
taken_next all m es n line = drop (length (taken_after all m es n line)) (taken_after all m es (suc n) line)

-- n rounds, one after another, given how many bytes each line took in all
abbrev pub echo_rounds : (ℕ → ℕ) → Moment → List Event → ℕ → List ℕ
echo_rounds all m es zero = []
echo_rounds all m es (suc n) = echo_rounds all m es n ++ echo_all m.config.terminals (λ line. taken_next (all line) m es n line)
