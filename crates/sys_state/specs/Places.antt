-- Objects that belong to the rows of a configuration, by their places.
use Rattle.std.specs.Prelude.{ℕ, zero, suc, List, [], ◌∷◌, Bool, Option, None, Some, option_map, if◌then◌else◌}

-- the place of the first that passes
abbrev pub place_of : {X : Type 0} → (X → Bool) → List X → Option ℕ
place_of p [] = None
place_of p (x ∷ xs) = if p x then Some 0 else option_map suc (place_of p xs)

-- what belongs to each row
abbrev pub beside_with : {X Y Z : Type 0} → (X → Y → Z) → List X → List Y → List Z
beside_with f (x ∷ xs) (y ∷ ys) = f x y ∷ beside_with f xs ys
beside_with f _ _ = []

-- the object at a place is changed
abbrev pub changed : {X : Type 0} → (X → X) → List X → ℕ → List X
changed f [] k = []
changed f (x ∷ xs) zero = f x ∷ xs
changed f (x ∷ xs) (suc k) = x ∷ changed f xs k
