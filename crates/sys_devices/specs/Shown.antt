-- Worked examples of the definitions, checked by computation.
use Rattle.std.specs.Prelude.{◌≡◌, ℕ, List, [], ◌∷◌, codes, refl}
use Rattle.std.specs.declared.option.Option.TheVariants.{None, Some}
use Rattle.sys_devices.specs.Stores.{known_after, known_until}

-- two lists of three blocks, of one byte each for short
abbrev pub old : List (List ℕ)
old = codes "a" ∷ codes "b" ∷ codes "c" ∷ []

abbrev pub new : List (List ℕ)
new = codes "x" ∷ codes "y" ∷ codes "z" ∷ []

all_stored : known_after (Some old) new ≡ Some new
all_stored = refl

the_first_failed : known_until (Some old) new 0 (codes "?") ≡ Some (codes "?" ∷ codes "b" ∷ codes "c" ∷ [])
the_first_failed = refl

one_between_failed : known_until (Some old) new 1 (codes "?") ≡ Some (codes "x" ∷ codes "?" ∷ codes "c" ∷ [])
one_between_failed = refl

the_last_failed : known_until (Some old) new 2 (codes "?") ≡ Some (codes "x" ∷ codes "y" ∷ codes "?" ∷ [])
the_last_failed = refl

nothing_told : known_until None new 1 (codes "?") ≡ None
nothing_told = refl
