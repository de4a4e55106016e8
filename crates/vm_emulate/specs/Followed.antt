-- What the kernel's work for an instruction leaves of a guest's shadow page tables: what was read from a frame that it writes is
-- dropped, and then the tables switch to the registers of page tables, if they changed.
use Rattle.std.specs.Prelude.{◌≡◌, ℕ, List}
use Rattle.vax_arch.specs.Walk.{Tables}
use Rattle.vm_exception.specs.Wrote.{DropsAmong}
use Rattle.vm_shadow.specs.Shadowed.{Shadowed}
use Rattle.vm_shadow.specs.StandsFor.{Retells}

pub record Follows (frames : List ℕ) (t : Tables) (s s' : Shadowed) : Type 0 where
  pub between : Shadowed
  pub drops : DropsAmong frames s between
  pub retells : Retells t between s'
  pub rest : s' ≡ record between { told = s'.told; slot = s'.slot; held = s'.held; reads = s'.reads }
