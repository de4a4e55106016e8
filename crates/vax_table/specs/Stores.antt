-- Stores made in a memory, byte by byte, each at the place that its address has
-- (VAX Architecture Reference Manual: data types; the lowest byte comes first).
use Rattle.std.specs.Prelude.{ℕ, zero, suc, ◌+◌, ◌/◌, ◌%◌, ◌^◌, List, [], ◌∷◌, slice_set}
use Rattle.vv_base.specs.Width.{size_of}
use Rattle.vax_table.specs.declared.effect.Store.{Store}

-- k bytes of a number from an address; addresses wrap at 32 bits
abbrev pub bytes_stored : (ℕ → ℕ) → (k a v : ℕ) → List ℕ → List ℕ
bytes_stored place zero a v memory = memory
bytes_stored place (suc k) a v memory = bytes_stored place k (a + 1) (v / 256) (slice_set memory (place (a % 2 ^ 32)) (v % 256))

-- stores in order
abbrev pub all_stored : (ℕ → ℕ) → List Store → List ℕ → List ℕ
all_stored place [] memory = memory
all_stored place (x ∷ xs) memory = all_stored place xs (bytes_stored place (size_of x.width) x.va x.value memory)
