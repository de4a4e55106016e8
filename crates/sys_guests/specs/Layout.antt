-- How the guests lie in the machine of 32,768 pages (profile): their memories one after another from page 0 on, in the
-- order of the configuration, and after them all their real tables, 580 pages each, in the same order.
use Rattle.std.specs.Prelude.{ℕ, ◌≡◌, ◌≤◌, ◌+◌, ◌*◌, List, [], ◌∷◌, ◌++◌, map, length, slice_index, All}
use Rattle.std.specs.List.{AllPairs, sum_by}
use Rattle.sys_objects.specs.Condition.{IsConfig}
use Rattle.sys_objects.specs.declared.records.Config.{Config}
use Rattle.sys_objects.specs.declared.records.GuestRow.{GuestRow}
use Rattle.vm_guest.specs.Kept.{IsShadowedIn, Kept, guest_in}
use Rattle.vm_state.specs.State.{Guest}

-- the guest of a row, with its memory and its tables from these pages on
pub record IsPlaced (row : GuestRow) (first table : ℕ) (k : Kept) : Type 0 where
  pub base : k.state.base ≡ first
  pub tables : k.shadow.at ≡ table
  pub pages : k.state.pages ≡ row.pages
  pub start : k.state.start ≡ row.start
  pub modify_faults : k.state.modify_faults ≡ row.modify_faults

-- the guests of the rows, with their memories and their tables one after another from these pages on
abbrev pub ArePlaced : (base tables : ℕ) → List GuestRow → List Kept → Type 0
ArePlaced base tables [] [] = Unit {0}
ArePlaced base tables [] (k ∷ ks) = ⊥
ArePlaced base tables (row ∷ rows) [] = ⊥
ArePlaced base tables (row ∷ rows) (k ∷ ks) = IsPlaced row base tables k × ArePlaced (base + row.pages) (tables + 580) rows ks

abbrev pub AreLaidOut : List GuestRow → List Kept → Type 0
AreLaidOut rows ks = ArePlaced 0 (sum_by (λ row. row.pages) rows) rows ks

-- the guests with their memories
abbrev pub guests_in : List ℕ → List Kept → List Guest
guests_in memory ks = map (guest_in memory) ks

-- Guests of rows that fit the machine are laid out in it, and the real tables of each stand for its own.
pub record AreInMachine (rows : List GuestRow) (memory : List ℕ) (ks : List Kept) : Type 0 where
  pub few : length rows ≤ 16
  pub some_pages : sum_by (λ row. row.pages) rows ≤ 16384
  pub laid_out : AreLaidOut rows ks
  pub stand : All (λ k. IsShadowedIn memory k) ks

-- pages of the machine
pub record Range : Type 0 where
  pub from : ℕ
  pub pages : ℕ

abbrev pub memory_of : Kept → Range
memory_of k = record { from = k.state.base; pages = k.state.pages }

abbrev pub tables_range : Kept → Range
tables_range k = record { from = k.shadow.at; pages = 580 }

abbrev pub ranges : List Kept → List Range
ranges ks = map memory_of ks ++ map tables_range ks

-- The guests of an accepted configuration that are laid out so have memories and tables of their own, in the machine:
-- each begins after all before it.
abbrev pub LiesApart : Type 0
LiesApart = (c : Config) (ks : List Kept) → IsConfig c → AreLaidOut c.guests ks
    → AllPairs (λ a b. a.from + a.pages ≤ b.from) (ranges ks) × All (λ a. a.from + a.pages ≤ 32768) (ranges ks)

-- the bytes of the machine that are the guests' memories and their real tables: all from its beginning up to here
abbrev pub end_of_guests : List GuestRow → ℕ
end_of_guests rows = 512 * (sum_by (λ row. row.pages) rows + 580 * length rows)

-- every byte beyond all guests and their real tables stays
abbrev pub OnlyGuests : List GuestRow → List ℕ → List ℕ → Type 0
OnlyGuests rows before after = (p : ℕ) → end_of_guests rows ≤ p → slice_index after p ≡ slice_index before p
