-- Worked examples of what a granted START or HALT makes of the server's state, by computation.
use Rattle.std.specs.Prelude.{◌≡◌, [], ◌∷◌, true, false, None, refl}
use Rattle.sys_server.specs.Apply.{applied, taken}
use Rattle.sys_server.specs.declared.command.Command.TheVariants.{Start, Halt}
use Rattle.sys_server.specs.declared.command.ServerState.{ServerState}

-- one terminal at the server, and three guests of which the first and the last run
abbrev pub three_guests : ServerState
three_guests = record { at = None ∷ []; mounts = [] ∷ [] ∷ [] ∷ []; running = true ∷ false ∷ true ∷ [] }

pub starts_the_second : applied three_guests 0 (Start 1) ≡ record three_guests { running = true ∷ true ∷ true ∷ [] }
unfolding applied
starts_the_second = refl

pub halts_the_last : applied three_guests 0 (Halt 2) ≡ record three_guests { running = true ∷ false ∷ false ∷ [] }
unfolding applied
halts_the_last = refl

-- neither takes a console from a terminal
pub no_console_is_taken : (taken three_guests 0 (Start 1) ≡ None) × (taken three_guests 0 (Halt 2) ≡ None)
unfolding taken
no_console_is_taken = (refl, refl)
