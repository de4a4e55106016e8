-- The text of a list of events: a line for each (profile). 32 is a blank, and 10 a line feed.
use Rattle.std.specs.Prelude.{decimal, ℕ, List, [], ◌∷◌, ◌++◌, codes}
use Rattle.sys_script.specs.declared.event.Event.{Event}
use Rattle.sys_script.specs.declared.event.Typed.{Typed}
use Rattle.sys_script.specs.declared.event.Typed.TheVariants.{Break, Line}

abbrev pub what_text : Typed → List ℕ
what_text Break = codes "break"
what_text (Line text) = codes "> " ++ text

abbrev pub line_text : Event → List ℕ
line_text event = decimal event.round ++ 32 ∷ (event.terminal ++ 32 ∷ what_text event.what)

abbrev pub script_text : List Event → List ℕ
script_text [] = []
script_text (event ∷ more) = line_text event ++ 10 ∷ script_text more
