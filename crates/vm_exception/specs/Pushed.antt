-- Bytes that are pushed and their homes, as the code has them.
use Rattle.std.specs.Prelude.{ℕ, ◌+◌, ◌%◌, Option, map}
use Rattle.vm_exception.specs.declared.pushes.PushedByte.{PushedByte}
use Rattle.vm_exception.specs.declared.pushes.Home.{Home}
use Rattle.vm_exception.specs.declared.pushes.Walked.{Walked}
use Rattle.vm_exception.specs.declared.pushes.Walked.TheVariants.{Faulty, Homes, PastMemory}
use Rattle.vm_state.specs.Pushes as pushes

abbrev pub byte_of : PushedByte → pushes.PushedByte
byte_of b = record { at = b.at; value = b.value }

abbrev pub home_of : Home → pushes.Home
home_of h = record { place = h.place; entry = h.entry; value = h.value }

-- the home of a byte in the page at a place
abbrev pub home_in : ℕ → Option ℕ → pushes.PushedByte → pushes.Home
home_in page entry b = record { place = page + b.at % 512; entry = entry; value = b.value }

abbrev pub walked_of : Walked → pushes.Walked
walked_of (Homes hs) = pushes.Homes (map home_of hs.items)
walked_of (Faulty f) = pushes.Faulty f
walked_of PastMemory = pushes.PastMemory
