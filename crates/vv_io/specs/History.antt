-- What was noted in a history.
use Rattle.std.specs.Prelude.{List, [], ◌∷◌, ◌++◌}
use Rattle.vv_io.specs.declared.history.Noted.{Noted}
use Rattle.vv_io.specs.declared.history.Noted.TheVariants.{Nothing, After}

-- the values in their order
abbrev pub noted_values : {T : Type 0} → Noted T → List T
noted_values Nothing = []
noted_values (After before last) = before.value ++ last.value ∷ []
