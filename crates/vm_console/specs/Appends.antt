-- What it means that a port shows bytes (profile).
use Rattle.std.specs.Prelude.{ℕ, List, ◌++◌}

-- `may port given`: the port may have been given this list of bytes since the start.
-- Of each list that it may have been given before, it may now have been given that list with the new bytes after it.
abbrev pub Appends : {Port : Type 0} → (Port → List ℕ → Type 0) → Port → Port → List ℕ → Type 0
Appends may old new bytes = (given : List ℕ) → may old given → may new (given ++ bytes)
