-- Numbers in one page: their bytes lie one after the other in the machine.
use Rattle.std.specs.Prelude.{◌≡◌, ℕ, zero, suc, ◌+◌, ◌-◌, ◌*◌, ◌/◌, ◌%◌, ◌≤◌, ◌<◌, ◌^◌, ◌==◌, ◌&&◌, Bool, true, nat_lt, List, [], ◌∷◌, length, slice_index, slice_set, None, Result, Ok, Err}
use Rattle.vv_base.specs.Width.{size_of}
use Rattle.vv_base.specs.declared.width.Width.{Width}
use Rattle.vax_arch.specs.declared.mode.Intent.TheVariants.{Write}
use Rattle.vax_hw.specs.declared.world.World.{World}
use Rattle.vax_table.specs.Effects.{store}
use Rattle.vax_table.specs.Interaction.{Trouble, number_at}
use Rattle.vax_table.specs.PlanLaws.{bytes_of_stores}
use Rattle.vax_table.specs.Tries.{first_clear}
use Rattle.vax_table.specs.declared.effect.Store.{Store}
use Rattle.vax_paged.specs.Known.{known_space}
use Rattle.vax_paged.specs.Paged.{is_clear_for, placed}
use Rattle.vax_paged.specs.declared.known.Known.{Known}

-- the number in k bytes from a place, the lowest first
abbrev pub number_from : List ℕ → (k place : ℕ) → ℕ
number_from memory zero place = 0
number_from memory (suc k) place = slice_index memory place + 256 * number_from memory k (place + 1)

-- the number of k bytes, of which the first `first` are at one place, and the others at another
abbrev pub number_over : List ℕ → (first k at next : ℕ) → ℕ
number_over memory zero k at next = number_from memory k next
number_over memory (suc first) zero at next = 0
number_over memory (suc first) (suc k) at next = slice_index memory at + 256 * number_over memory first k (at + 1) next

-- and from the place that an address has
abbrev pub number_at_place : List ℕ → (k : ℕ) → Result ℕ Trouble → Result ℕ Trouble
number_at_place memory k (Ok place) = Ok (number_from memory k place)
number_at_place memory k (Err trouble) = Err trouble

-- k bytes of a number stored from a place
abbrev pub stored_from : (k place v : ℕ) → List ℕ → List ℕ
stored_from zero place v memory = memory
stored_from (suc k) place v memory = stored_from k (place + 1) (v / 256) (slice_set memory place (v % 256))

-- what of a number is above its lowest k bytes
abbrev pub above_bytes : (k v : ℕ) → ℕ
above_bytes zero v = v
above_bytes (suc k) v = above_bytes k (v / 256)

-- a store in one page, which memory has whole from a place
pub record IsStoreInPage (memory : List ℕ) (w : World) (x : Store) (place : ℕ) : Type 0 where
  pub placed_at : placed memory w Write x.va ≡ Ok place
  pub small : x.va < 2 ^ 32
  pub in_page : x.va % 512 + size_of x.width ≤ 512
  pub in_memory : place + size_of x.width ≤ length memory

-- a store over a page's end, whose parts memory has whole from two places
pub record IsStoreOverEnd (memory : List ℕ) (w : World) (x : Store) (low high : ℕ) : Type 0 where
  pub placed_at : placed memory w Write x.va ≡ Ok low
  pub next_at : placed memory w Write ((x.va + (512 - x.va % 512)) % 2 ^ 32) ≡ Ok high
  pub small : x.va < 2 ^ 32
  pub over_end : 512 < x.va % 512 + size_of x.width
  pub low_in_memory : low + (512 - x.va % 512) ≤ length memory
  pub high_in_memory : high + (size_of x.width - (512 - x.va % 512)) ≤ length memory

-- bytes of one known page, from an address on, which memory has whole from a place, and which may be stored: what is there is
-- what is claimed
pub record IsOpenAt (memory : List ℕ) (w : World) (ks : List Known) (va : ℕ) (width : Width) (place : ℕ) : Type 0 where
  pub whole : (v : ℕ) → IsStoreInPage memory w (store va width v) place
  pub claimed : number_at (known_space memory ks) Write (size_of width) va ≡ Ok (number_from memory (size_of width) place)
  pub modified : (v : ℕ) → first_clear (is_clear_for memory w) (bytes_of_stores (store va width v ∷ [])) ≡ None

-- whether stores lie in a page
abbrev pub lies_in : (page : ℕ) → Store → Bool
lies_in page x = (x.va / 512 == page) && (nat_lt x.va (2 ^ 32) && nat_lt (x.va % 512 + size_of x.width) 513)

abbrev pub all_lie_in : (page : ℕ) → List Store → Bool
all_lie_in page [] = true
all_lie_in page (x ∷ xs) = lies_in page x && all_lie_in page xs
