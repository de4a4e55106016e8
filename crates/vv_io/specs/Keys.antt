-- What a keyboard gives, and what one call takes of it.
use Rattle.std.specs.Prelude.{ℕ, ◌≡◌, List, [], ◌∷◌, ◌++◌, take, map}
use Rattle.std.specs.declared.option.Option.{Option}
use Rattle.std.specs.declared.option.Option.TheVariants.{None, Some}
use Rattle.std.specs.declared.result.Result.{Result}
use Rattle.std.specs.declared.result.Result.TheVariants.{Ok, Err}
use Rattle.vv_io.specs.Causes.{HasCause}
use Rattle.vv_io.specs.Lines.{Seen}

-- A keyboard as the outside knows it: the lines that are still to come, where they are known, its count of faults, and what was on
-- the output at each call.
pub record Keys : Type 0 where
  pub coming : Option (List (List ℕ))
  pub faults : ℕ
  pub outputs : List Seen

-- the first 1,024 bytes of a line are given, or all of a shorter one
abbrev pub given_of : List ℕ → List ℕ
given_of line = take 1024 line

-- the next line was given, or no more come; a call that failed took none
abbrev pub Gives : {E : Type 0} → Option (List (List ℕ)) → Option (List (List ℕ)) → Result (Option (List ℕ)) E → Type 0
Gives before after (Err _) = after ≡ before
Gives None after (Ok _) = after ≡ None
Gives (Some []) after (Ok None) = after ≡ Some []
Gives (Some []) after (Ok (Some line)) = ⊥
Gives (Some (next ∷ lines)) after (Ok None) = ⊥
Gives (Some (next ∷ lines)) after (Ok (Some line)) = (line ≡ given_of next) × (after ≡ Some lines)

-- one call, while this was on the output
pub record Takes {E : Type 0} (out : Seen) (before after : Keys) (result : Result (Option (List ℕ)) E) : Type 0 where
  pub gives : Gives before.coming after.coming result
  pub cause : HasCause before.faults after.faults result
  pub noted : after.outputs ≡ before.outputs ++ out ∷ []

-- the first of the lines were taken, one after another, and were given so; the rest is still to come
abbrev pub Took : List (List ℕ) → Option (List (List ℕ)) → Option (List (List ℕ)) → Type 0
Took lines None after = after ≡ None
Took lines (Some coming) after = (first : List (List ℕ)) × (rest : List (List ℕ)) × (coming ≡ first ++ rest) × (lines ≡ map given_of first) × (after ≡ Some rest)

-- no more lines come, where it is known which come
abbrev pub IsOut : Option (List (List ℕ)) → Type 0
IsOut None = Unit {0}
IsOut (Some coming) = coming ≡ []
