-- The events of the lines that were read, and of those that are left.
use Rattle.std.proofs.Common.{◌≡◌, ℕ, List, [], ◌++◌, Result, Ok, Err, refl, sym, ◌∙◌, ap, append-nil}
use Rattle.std.specs.Str.Lines.{lines}
use Rattle.sys_script.specs.EventLine.{◌>>=◌}
use Rattle.sys_script.specs.Script.{events_from, script_of}
use Rattle.sys_script.specs.declared.event.Event.{Event}
use Rattle.sys_script.specs.declared.event.ScriptFault.{ScriptFault}

-- events that were read, and those of the rest
abbrev pub after_all : List Event → Result (List Event) ScriptFault → Result (List Event) ScriptFault
after_all done rest = rest >>= λ more. Ok (done ++ more)

after_none : (rest : Result (List Event) ScriptFault) → after_all [] rest ≡ rest
after_none (Ok more) = refl
after_none (Err fault) = refl

pub begins : (bytes : List ℕ) → after_all [] (events_from 1 0 (lines bytes)) ≡ script_of bytes
unfolding script_of
begins bytes = after_none (events_from 1 0 (lines bytes))

pub all_read : (bytes rest : List ℕ) (done : List Event) (number last : ℕ) → after_all done (events_from number last (lines rest)) ≡ script_of bytes → lines rest ≡ [] → script_of bytes ≡ Ok done
all_read bytes rest done number last is none =
    let here : after_all done (events_from number last []) ≡ script_of bytes = rw none at is in
    sym here ∙ ap (λ events. Ok events) (append-nil done)
