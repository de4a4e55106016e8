-- How guests come into the machine: at power-up with their images, and again as they were.
use Rattle.std.specs.Prelude.{ℕ, ◌≡◌, ◌≤◌, ◌<◌, ◌+◌, ◌*◌, ◌⊎◌, nat_lt, List, [], length, slice_index, Bool, Option}
use Rattle.vax_hw.specs.Machine.{Machine}
use Rattle.sys_guests.specs.Layout.{IsPlaced}
use Rattle.sys_objects.specs.declared.records.GuestRow.{GuestRow}
use Rattle.sys_state.specs.Guests.{powered}
use Rattle.sys_state.specs.Places.{beside_with, place_of}
use Rattle.vm_simulation_laws.specs.Present.{HasPresent}
use Rattle.vm_guest.specs.Kept.{IsShadowedIn, Kept, guest_in}
use Rattle.vm_state.specs.Partition.{partition_of}
use Rattle.vm_state.specs.State.{Guest}
use Rattle.vm_state.specs.Touches.{at_first}
use Rattle.vm_state.specs.declared.guest_state.GuestState.{GuestState}

-- whether an image with its place doesn't fit the guest's memory
abbrev pub is_misfit : GuestRow → List ℕ → Bool
is_misfit row image = nat_lt (512 * row.pages) (row.load + length image)

-- the first guest whose image doesn't fit
abbrev pub first_misfit : List GuestRow → List (List ℕ) → Option ℕ
first_misfit rows images = place_of (λ b. b) (beside_with is_misfit rows images)

-- of the machine the memory alone changes; its size stays
pub record MemoryAlone (m m' : Machine) : Type 0 where
  pub rest : m' ≡ record m { memory = m'.memory }
  pub size : length m'.memory ≡ length m.memory

-- every byte outside `pages` pages from the page `base` on, and outside the real tables from the page `tables` on, stays
pub record OnlyPlaces (base pages tables : ℕ) (before after : List ℕ) : Type 0 where
  pub size : length after ≡ length before
  pub other : (p : ℕ) → (p < 512 * base) ⊎ (512 * (base + pages) ≤ p) → (p < 512 * tables) ⊎ (512 * (tables + 580) ≤ p) → slice_index after p ≡ slice_index before p

-- A guest with these registers and this memory is in the machine, with its real tables from a page on.
pub record PutsIn (given : GuestState) (table : ℕ) (bytes : List ℕ) (memory memory' : List ℕ) (k : Kept) : Type 0 where
  pub state : k.state ≡ given
  pub tables : k.shadow.at ≡ table
  pub holds : partition_of memory' given ≡ bytes
  pub stands : IsShadowedIn memory' k
  pub only : OnlyPlaces given.base given.pages table memory memory'

-- The guest of a row is this one, and is in the machine at its place.
pub record PlacesOne (row : GuestRow) (h : Guest) (base tables : ℕ) (memory memory' : List ℕ) (k : Kept) : Type 0 where
  pub placed : IsPlaced row base tables k
  pub guest : guest_in memory' k ≡ h
  pub stands : IsShadowedIn memory' k
  pub only : OnlyPlaces base row.pages tables memory memory'

-- the guest of a row is loaded
abbrev pub LoadsGuest : (row : GuestRow) (image : List ℕ) (base tables : ℕ) (memory memory' : List ℕ) (k : Kept) → Type 0
LoadsGuest row image = PlacesOne row (powered row image)

-- what is present by first touches at a guest's beginning has entries: nothing is
abbrev pub HasFirst : Kept → Type 0
HasFirst k = HasPresent k.shadow (at_first (guest_in [] k))
