-- Volumes of zero bytes, one more at a time.
use Rattle.std.proofs.Common.{◌≡◌, ℕ, List, [], ◌∷◌, ◌++◌, ◌+◌, length, map, refl}
use Rattle.std.proofs.lemmas.List.{length-replicate, replicate_more}
use Rattle.sys_store.specs.Blocks.{zero_block, zero_volume}

pub no_blocks : [] ≡ zero_volume 0
unfolding zero_volume
no_blocks = refl

pub one_block_more : (n : ℕ) → zero_volume n ++ zero_block ∷ [] ≡ zero_volume (n + 1)
unfolding zero_volume
one_block_more n = replicate_more n zero_block

pub length_zero_volume : (n : ℕ) → length (zero_volume n) ≡ n
unfolding zero_volume
length_zero_volume n = length-replicate n zero_block

pub sizes_of_zero : (sizes : List ℕ) → map length (map zero_volume sizes) ≡ sizes
sizes_of_zero [] = refl
sizes_of_zero (n ∷ sizes) = let first = length_zero_volume n in let rest = sizes_of_zero sizes in λ i. first i ∷ rest i
