-- A step that the kernel makes of a guest.
use Rattle.std.specs.Prelude.{◌≡◌}
use Rattle.vax_hw.specs.Machine.{Machine}
use Rattle.vm_exception.specs.Wrote.{DropsAmong}
use Rattle.vm_shadow.specs.Shadowed.{Shadowed}
use Rattle.vm_shadow.specs.StandsFor.{OnlyGuest, StandsFor}
use Rattle.vm_state.specs.Initiate.{initiate}
use Rattle.vm_state.specs.Interrupts.{Source, interrupt_of}
use Rattle.vm_state.specs.Partition.{guest_of}
use Rattle.vm_state.specs.State.{Guest, HasPlace}
use Rattle.vm_state.specs.Step.{Stepped, interrupted}
use Rattle.vm_state.specs.declared.guest_state.GuestState.{GuestState}

-- The guest is the step's then, and what is dropped was read from a frame that the step wrote; its shadow page tables stand
-- for its own, and nothing else of the machine changes.
pub record MakesStep (x : Stepped) (m : Machine) (s : Shadowed) (g : GuestState) (m' : Machine) (s' : Shadowed) (g' : GuestState) : Type 0 where
  pub guest : guest_of m'.memory g' ≡ x.guest
  pub drops : DropsAmong x.written s s'
  pub stands : StandsFor m'.memory s' g'
  pub place : HasPlace g.pages g.base g.start g'
  pub only : OnlyGuest s m m'

-- the step in which a source interrupts a guest
abbrev pub interrupted_by : Guest → Source → Stepped
interrupted_by h source = interrupted h source (initiate h (interrupt_of source))
