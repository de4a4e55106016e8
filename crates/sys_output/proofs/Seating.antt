-- The bytes of terminals, of which those that are no terminal have FF.
use Rattle.std.proofs.Common.{ℕ, zero, suc, ◌≡◌, ◌<◌, ◌+◌, ◌-◌, List, [], ◌∷◌, ◌++◌, length, take, drop, map, get_or, replicate, refl, sym, ◌∙◌, ap, arith}
use Rattle.std.specs.Prelude.{All}
use Rattle.std.specs.declared.option.Option.{Option}
use Rattle.std.specs.declared.option.Option.TheVariants.{None}
use Rattle.std.proofs.lemmas.List.{at_drop_more}
use Rattle.sys_snap.specs.Written.{place_byte, seat_bytes}

pub seat_next : (at : List (Option ℕ)) (k : ℕ) (d : Option ℕ) (b : ℕ) → k < length at → b ≡ place_byte (get_or at k d) → map place_byte (drop k at) ≡ (b ∷ []) ++ map place_byte (drop (k + 1) at)
seat_next at k d b inside is = at_drop_more (map place_byte) at k d inside ∙ ap (λ (n : ℕ). n ∷ map place_byte (drop (k + 1) at)) (sym is)

-- where there is none, each has FF
none_seated : (at : List (Option ℕ)) → All (λ o. o ≡ None) at → map place_byte at ≡ replicate (length at) 255
none_seated [] none = refl
none_seated (o ∷ at) none =
    let first : o ≡ None = none 0 o (omega arith) in
    let rest : map place_byte at ≡ replicate (length at) 255 = none_seated at (λ k d inside. none (suc k) d (omega (arith, inside))) in
    λ i. place_byte (first i) ∷ rest i

some_seated : (n : ℕ) (at : List (Option ℕ)) → All (λ o. o ≡ None) (drop n at) → map place_byte at ≡ map place_byte (take n at) ++ replicate (length at - length (take n at)) 255
some_seated zero at none =
    let all : length at ≡ length at - 0 = omega arith in
    none_seated at none ∙ ap (λ (k : ℕ). replicate k 255) all
some_seated (suc n) [] none = refl
some_seated (suc n) (o ∷ at) none =
    let fewer : length at - length (take n at) ≡ suc (length at) - suc (length (take n at)) = omega arith in
    ap (λ (bs : List ℕ). place_byte o ∷ bs) (some_seated n at none)
    ∙ ap (λ (k : ℕ). place_byte o ∷ (map place_byte (take n at) ++ replicate k 255)) fewer

pub all_seated : (n : ℕ) (at : List (Option ℕ)) → length at ≡ 32 → All (λ o. o ≡ None) (drop n at) → map place_byte at ≡ seat_bytes (take n at)
all_seated n at many none = some_seated n at none ∙ ap (λ (k : ℕ). map place_byte (take n at) ++ replicate (k - length (take n at)) 255) many
