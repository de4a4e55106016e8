-- The instruction at the front of an image, or that none is there.
use Rattle.std.specs.Prelude.{ℕ, List, Option, Some, None}
use Rattle.vax_table.specs.declared.decoded.Decoded.{Decoded}
use Rattle.vax_table.specs.Reading.{Decoding, Whole, Short, Unknown, Reserved, decoded_at}
use Rattle.vax_decode.specs.Decoding.{IsWhole}

abbrev pub IsNone : Decoding → Type 0
IsNone (Whole d rest) = ⊥
IsNone Short = Unit {0}
IsNone Unknown = Unit {0}
IsNone Reserved = Unit {0}

abbrev pub IsFirstDecoded : Option Decoded → List ℕ → Type 0
IsFirstDecoded None image = IsNone (decoded_at image)
IsFirstDecoded (Some d) image = IsWhole d (decoded_at image)
