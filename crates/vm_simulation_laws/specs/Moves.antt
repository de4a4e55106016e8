-- What the kernel's work for a guest leaves of its shadow page tables: what was read from frames that were written is dropped at
-- most, and then the tables switch to the registers of page tables, if they changed.
use Rattle.std.specs.Prelude.{◌≡◌, ◌⊎◌, ℕ, true, List, None}
use Rattle.vax_arch.specs.Walk.{Tables}
use Rattle.vm_shadow.specs.Shadowed.{Shadowed, is_pending, read_at}
use Rattle.vm_shadow.specs.StandsFor.{Retells}

-- of what is recorded of entries, at most what was read from one of some frames is dropped
pub record Drops (frames : List ℕ) (s s' : Shadowed) : Type 0 where
  pub each : (n : ℕ) → (read_at s' n ≡ read_at s n) ⊎ ((read_at s' n ≡ None) × (is_pending frames (read_at s n) ≡ true))
  pub told : s'.told ≡ s.told
  pub held : s'.held ≡ s.held

pub record Moves (frames : List ℕ) (t : Tables) (s s' : Shadowed) : Type 0 where
  pub between : Shadowed
  pub drops : Drops frames s between
  pub retells : Retells t between s'
