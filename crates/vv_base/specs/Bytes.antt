-- Fields of two and four bytes in a list of bytes, the lowest byte first
-- (VAX Architecture Reference Manual, data types: word, longword).
use Rattle.std.specs.Prelude.{ℕ, ◌+◌, ◌*◌, ◌/◌, ◌%◌, List, [], ◌∷◌, ◌++◌, length, take, drop, slice_index}

-- the word in the two bytes from a place
abbrev pub word_at : List ℕ → ℕ → ℕ
word_at bytes at = slice_index bytes at + 256 * slice_index bytes (at + 1)

-- the longword in the four bytes from a place
abbrev pub long_at : List ℕ → ℕ → ℕ
long_at bytes at = slice_index bytes at + 256 * slice_index bytes (at + 1) + 65536 * slice_index bytes (at + 2) + 16777216 * slice_index bytes (at + 3)

-- the two bytes of a number below 2 ^ 16
abbrev pub word_bytes : ℕ → List ℕ
word_bytes n = n % 256 ∷ n / 256 ∷ []

-- the four bytes of a number below 2 ^ 32
abbrev pub long_bytes : ℕ → List ℕ
long_bytes n = n % 256 ∷ (n / 256) % 256 ∷ (n / 65536) % 256 ∷ n / 16777216 ∷ []

-- a list of bytes with new ones in the place of as many
abbrev pub overwritten : List ℕ → ℕ → List ℕ → List ℕ
overwritten bytes at new = take at bytes ++ new ++ drop (at + length new) bytes
