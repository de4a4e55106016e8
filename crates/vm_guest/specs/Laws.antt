-- Guests that share nothing.
use Rattle.std.specs.Prelude.{◌≡◌, ℕ, ◌+◌, ◌*◌, ◌<◌, ◌≤◌, List, length, slice_index}
use Rattle.vm_guest.specs.Kept.{IsShadowedIn, Kept, guest_in}

-- Two memories of a machine are the same in a guest's own pages, and in those of its real tables.
pub record SharesPart (k : Kept) (memory other : List ℕ) : Type 0 where
  pub size : length other ≡ length memory
  pub own : (p : ℕ) → 512 * k.shadow.base ≤ p → p < 512 * (k.shadow.base + k.shadow.pages) → slice_index other p ≡ slice_index memory p
  pub tables : (p : ℕ) → 512 * k.shadow.at ≤ p → p < 512 * (k.shadow.at + 580) → slice_index other p ≡ slice_index memory p

-- A guest is in either, and is the same: what happens elsewhere in the machine changes nothing of it.
abbrev pub IsIsolated : Type 0
IsIsolated = (k : Kept) (memory other : List ℕ) → IsShadowedIn memory k → SharesPart k memory other → IsShadowedIn other k × (guest_in other k ≡ guest_in memory k)
