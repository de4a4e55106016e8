-- Volumes: for each its blocks in order, for each block its 512 bytes (profile).
use Rattle.std.specs.Prelude.{◌≡◌, ℕ, ◌≤◌, List, [], length, replicate, Some, slice_get, slice_index_or, slice_set}

unfoldable pub zero_block : List ℕ
zero_block = replicate 512 0

unfoldable pub zero_volume : ℕ → List (List ℕ)
zero_volume size = replicate size zero_block

-- the blocks of a volume
abbrev pub blocks_of : List (List (List ℕ)) → ℕ → List (List ℕ)
blocks_of volumes v = slice_index_or volumes v []

-- the volume has the block, and these are its bytes
abbrev pub HasBlock : List (List (List ℕ)) → ℕ → ℕ → List ℕ → Type 0
HasBlock volumes v block bytes = slice_get (blocks_of volumes v) block ≡ Some bytes

-- it has fewer blocks
abbrev pub LacksBlock : List (List (List ℕ)) → ℕ → ℕ → Type 0
LacksBlock volumes v block = length (blocks_of volumes v) ≤ block

-- these bytes in the place of one block
abbrev pub with_block : List (List (List ℕ)) → ℕ → ℕ → List ℕ → List (List (List ℕ))
with_block volumes v block bytes = slice_set volumes v (slice_set (blocks_of volumes v) block bytes)
