-- Worked examples of lines that are typed while a run goes on, by computation: the rounds that they end, and their events.
use Rattle.std.specs.Prelude.{◌≡◌, [], ◌∷◌, codes, refl}
use Rattle.sys_script.specs.Typed.{events_typed, rounds_ended, typed_in}
use Rattle.sys_script.specs.declared.event.Typed.TheVariants.{Break, Line}

-- empty lines end rounds; neither an event nor a line that is refused ends one
pub rounds_of_empty_lines :
    (rounds_ended (codes "T1 > A" ∷ [] ∷ [] ∷ codes "T1 brake" ∷ codes "T1 break" ∷ []) ≡ 2)
    × (rounds_ended (codes "T1 > A" ∷ []) ≡ 0)
    × (rounds_ended [] ≡ 0)
rounds_of_empty_lines = (refl, refl, refl)

-- a line that is refused and a comment say no event, and those after them say theirs in the same round
pub refused_lines_are_left_out : events_typed 3 (codes "T1 > A" ∷ codes "T1 brake" ∷ codes "# no" ∷ codes "T2 break" ∷ []) ≡
    record { round = 3; terminal = codes "T1"; what = Line (codes "A") } ∷ record { round = 3; terminal = codes "T2"; what = Break } ∷ []
unfolding typed_in
refused_lines_are_left_out = refl
