-- What happens at the terminals: one thing in each round.
use Rattle.std.specs.List.{range_with_len}
use Rattle.std.specs.Prelude.{ℕ, ◌+◌, ◌*◌, ◌%◌, ◌==◌, List, ◌∷◌, ◌++◌, codes, map, if◌then◌else◌}
use Rattle.sys_script.specs.declared.event.Event.{Event}
use Rattle.sys_script.specs.declared.event.Typed.{Typed}
use Rattle.sys_script.specs.declared.event.Typed.TheVariants.{Break, Line}
use Rattle.vv_gen.specs.Config.{with_digit}

-- a guest is to read the shared volume at its unit 2
abbrev pub mount_text : ℕ → List ℕ
mount_text guest = codes "MOUNT G" ++ (48 + guest) ∷ codes " 2 V0 READ"

abbrev pub typed_of : ℕ → ℕ → Typed
typed_of digit which =
    if which == 0 then Break else
    if which == 1 then Line (codes "SHOW") else
    if which == 2 then Line (mount_text digit) else Line (codes "HELLO")

-- the first draw gives the terminal, the second what is typed
abbrev pub event_of : ℕ → (ℕ → ℕ) → Event
event_of round draws = record { round = round; terminal = with_digit (codes "T") (draws 0 % 8); what = typed_of (draws 0 % 8) (draws 1 % 4) }

-- two draws for each round
unfoldable pub events_drawn : (ℕ → ℕ) → List Event
events_drawn draws = map (λ before. event_of (before + 1) (λ k. draws (2 * before + k))) (range_with_len 0 20)
