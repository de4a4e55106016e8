-- Laws of what an instruction of the real machine reads.
use Rattle.std.specs.Prelude.{◌≡◌, ℕ, ◌+◌, ◌%◌, ◌^◌, List, slice_index, Result, Ok, Err}
use Rattle.vax_hw.specs.Machine.{Machine, machine_write_place}
use Rattle.vax_hw.specs.Real.{Retired, machine_step}
use Rattle.vax_hw.specs.declared.world.Exit.{Exit}
use Rattle.vax_hw.specs.declared.world.World.{World}
use Rattle.vvmm_laws.specs.Reads.{places_read}
use Rattle.vax_table.specs.Interaction.{IsIn}
use Rattle.vax_table.specs.Stores.{all_stored}
use Rattle.vax_table.specs.declared.effect.Store.{Store}

-- a memory has at these places the bytes that another has there
abbrev pub HasTheSame : List ℕ → List ℕ → List ℕ → Type 0
HasTheSame places memory other = (place : ℕ) → IsIn place places → slice_index other place ≡ slice_index memory place

-- another machine with the same registers and tables, which has the same bytes where the instruction of the first reads
pub record ReadsTheSame (m other : Machine) : Type 0 where
  pub world : other.world ≡ m.world
  pub bytes : HasTheSame (places_read m) m.memory other.memory

-- a machine after an instruction that retired: with this world, these stores made in order at these places, one more
-- instruction counted, and the trail up by a term
abbrev pub after_retirement : World → (ℕ → ℕ) → List Store → (term : ℕ) → Machine → Machine
after_retirement w place stores term m = record m {
  memory = all_stored place stores m.memory;
  world = w;
  retired = (m.retired + 1) % 2 ^ 64;
  trail = (m.trail + term) % 2 ^ 64;
}

-- Both retired: the same registers, status word and trap, the same bytes stored at the same places, and counts that rose
-- by the same. All other memory is in each as it was.
pub record RetireAlike (m other : Machine) (x y : Retired) : Type 0 where
  pub stores : List Store
  pub term : ℕ
  pub first : x.machine ≡ after_retirement x.machine.world (machine_write_place m) stores term m
  pub second : y.machine ≡ after_retirement x.machine.world (machine_write_place m) stores term other
  pub trap : y.trap ≡ x.trap

-- both retired alike, or neither retired, for the same reason
abbrev pub AreAlike : Machine → Machine → Result Retired Exit → Result Retired Exit → Type 0
AreAlike m other (Ok x) (Ok y) = RetireAlike m other x y
AreAlike m other (Ok x) (Err e) = ⊥
AreAlike m other (Err e) (Ok y) = ⊥
AreAlike m other (Err e) (Err f) = f ≡ e

-- The outcome of an instruction depends on memory only at the places that it reads. Beyond a memory's end a byte is 0, so
-- that memories of two sizes can be compared.
abbrev pub DependsOnWhatItReads : Type 0
DependsOnWhatItReads = (m other : Machine) → ReadsTheSame m other → AreAlike m other (machine_step m) (machine_step other)

-- an instruction that retires changes memory only at places that it reads, since what is stored was asked for
abbrev pub ChangesWhatItReads : Type 0
ChangesWhatItReads = (m : Machine) (x : Retired) → machine_step m ≡ Ok x → (place : ℕ) → (IsIn place (places_read m) → ⊥) → slice_index x.machine.memory place ≡ slice_index m.memory place

-- the other machine's instruction reads the same places
abbrev pub ReadsAtTheSamePlaces : Type 0
ReadsAtTheSamePlaces = (m other : Machine) → ReadsTheSame m other → places_read other ≡ places_read m
