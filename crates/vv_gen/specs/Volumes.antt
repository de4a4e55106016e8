-- What is on the volumes.
use Rattle.std.specs.List.{range_with_len}
use Rattle.std.specs.Prelude.{ℕ, ◌+◌, ◌*◌, ◌%◌, List, ◌∷◌, map, replicate}
use Rattle.sys_store.specs.Blocks.{zero_volume}

-- a draw for each byte of a block
unfoldable pub block_of : (ℕ → ℕ) → List ℕ
block_of draws = map (λ i. draws i % 256) (range_with_len 0 512)

-- and 512 draws for each block
unfoldable pub blocks_drawn : (ℕ → ℕ) → List (List ℕ)
blocks_drawn draws = map (λ b. block_of (λ i. draws (512 * b + i))) (range_with_len 0 8)

-- the volume that all guests read is drawn, and those of the guests are zero
unfoldable pub volumes_of : (ℕ → ℕ) → List (List (List ℕ))
volumes_of draws = blocks_drawn draws ∷ replicate 8 (zero_volume 8)
