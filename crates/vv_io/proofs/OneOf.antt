-- One of several boxed objects.
use Rattle.std.proofs.Common.{ℕ, ◌≡◌, ◌<◌, List, length, map, slice_set, slice_index_or, subst, sym, ◌∙◌, ap}
use Rattle.std.proofs.lemmas.List.{map-set, get_or-map}
use Rattle.std.proofs.Math.Seq.{map-set_same}

-- what one call does to the object at k, it does to object k of all
pub one_of : {D V : Type 0} (f : D → V) (R : V → V → Type 0) (items : List D) (k : ℕ) (old new : D) (none : V) → k < length items → old ≡ slice_index_or items k old → R (f old) (f new)
    → (v : V) × (map f (slice_set items k new) ≡ slice_set (map f items) k v) × R (slice_index_or (map f items) k none) v
one_of {D} {V} f R items k old new none within read does =
    let same : f old ≡ slice_index_or (map f items) k none = ap f read ∙ sym (get_or-map f items k old none within) in
    let P : V → Type 0 = λ v. R v (f new) in
    (f new, map-set f items k new, subst P same does)

-- what one call leaves as it was, is left so in all
pub stays_of : {D V : Type 0} (f : D → V) (items : List D) (k : ℕ) (old new : D) → old ≡ slice_index_or items k old → f new ≡ f old → map f (slice_set items k new) ≡ map f items
stays_of f items k old new read same = map-set_same f items k new old (same ∙ ap f read)
