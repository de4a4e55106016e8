-- Stores as bytes at places.
use Rattle.std.specs.Prelude.{ℕ, ◌/◌, ◌%◌, ◌^◌, zero, suc, ◌+◌, List, [], ◌∷◌, ◌++◌, slice_set}
use Rattle.vv_base.specs.Width.{size_of}
use Rattle.vax_table.specs.declared.effect.Store.{Store}
use Rattle.vax_paged.specs.declared.stores.Put.{Put}

abbrev pub byte_put_at : ℕ → ℕ → Put
byte_put_at place byte = record { place = place; byte = byte }

-- of k bytes of a number from an address
abbrev pub puts_from : (ℕ → ℕ) → (k a v : ℕ) → List Put
puts_from place zero a v = []
puts_from place (suc k) a v = byte_put_at (place (a % 2 ^ 32)) (v % 256) ∷ puts_from place k (a + 1) (v / 256)

-- of stores in order
abbrev pub puts_of : (ℕ → ℕ) → List Store → List Put
puts_of place [] = []
puts_of place (x ∷ xs) = puts_from place (size_of x.width) x.va x.value ++ puts_of place xs

-- made in order
abbrev pub made : List Put → List ℕ → List ℕ
made [] memory = memory
made (p ∷ ps) memory = made ps (slice_set memory p.place p.byte)
