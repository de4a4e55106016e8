-- What guests show on their consoles.
use Rattle.std.specs.Prelude.{ℕ, List, [], ◌∷◌, Option, Some, None, map, if◌then◌else◌}
use Rattle.sys_objects.specs.declared.records.Terminal.{Terminal}
use Rattle.sys_objects.specs.Places.{is_at}
use Rattle.sys_state.specs.State.{Put}

-- the line of the terminal that is connected to the guest at a place
abbrev pub console_of : List Terminal → List (Option ℕ) → ℕ → Option ℕ
console_of (k ∷ ks) (o ∷ os) g = if is_at g o then Some k.line else console_of ks os g
console_of _ _ g = None

-- each byte is one put; without a terminal they are dropped
abbrev pub on_console : Option ℕ → List ℕ → List Put
on_console None bytes = []
on_console (Some line) bytes = map (λ b. record { line = line; bytes = b ∷ [] }) bytes
