-- The initiation of an exception or an interrupt, over a machine and a guest's shadow page tables.
use Rattle.std.specs.Prelude.{◌≡◌, ◌<◌, ℕ, Some, List}
use Rattle.vax_hw.specs.Machine.{Machine}
use Rattle.vm_exception.specs.Standing.{Standing, standing}
use Rattle.vm_exception.specs.Wrote.{DropsAmong}
use Rattle.vm_exception.specs.declared.initiated.Initiated.{Initiated}
use Rattle.vm_exception.specs.declared.initiated.Initiated.TheVariants as outcomes
use Rattle.vm_shadow.specs.Shadowed.{Shadowed}
use Rattle.vm_shadow.specs.StandsFor.{OnlyGuest, StandsFor}
use Rattle.vm_state.specs.Initiate.{Initiation, KernelStackBad, StopsGuest, Taken, initiate}
use Rattle.vm_state.specs.Partition.{guest_of}
use Rattle.vm_state.specs.State.{Guest, HasPlace, state_of}
use Rattle.vm_state.specs.Stops.{stop_code}
use Rattle.vm_state.specs.declared.exception.Exc.{Exc}
use Rattle.vm_state.specs.declared.exception.Exc.TheVariants.{Interrupt}
use Rattle.vm_state.specs.declared.guest_state.GuestState.{GuestState}

-- the guest is this one then, and what is dropped was read from one of the frames
pub record InitiatesTo (h : Guest) (frames : List ℕ) (s : Shadowed) (m' : Machine) (s' : Shadowed) (g' : GuestState) : Type 0 where
  pub guest : guest_of m'.memory g' ≡ h
  pub drops : DropsAmong frames s s'

-- the guest stops, and nothing else changes
pub record StopsWith (code : ℕ) (m : Machine) (s : Shadowed) (g : GuestState) (m' : Machine) (s' : Shadowed) (g' : GuestState) : Type 0 where
  pub state : state_of g' ≡ record (state_of g) { halt = Some code }
  pub machine : m' ≡ m
  pub shadow : s' ≡ s

-- by the definition
abbrev pub IsInitiated : Initiation → Initiated → (before after : Standing) → Type 0
IsInitiated (Taken h frames) outcomes.Taken x y = InitiatesTo h frames x.tables y.machine y.tables y.state
IsInitiated (KernelStackBad h frames) outcomes.KernelStackBad x y = InitiatesTo h frames x.tables y.machine y.tables y.state
IsInitiated (StopsGuest stop) (outcomes.Stopped code) x y =
    (code ≡ stop_code stop) × StopsWith code x.machine x.tables x.state y.machine y.tables y.state
IsInitiated _ _ x y = ⊥

-- an interrupt's level is one of the 32, and its vector is in the first 512 bytes of the system control block
abbrev pub IsProper : Exc → Type 0
IsProper (Interrupt level vector) = (level < 32) × (vector < 512)
IsProper _ = Unit {0}

pub record Initiates (e : Exc) (m : Machine) (s : Shadowed) (g : GuestState) (result : Initiated) (m' : Machine) (s' : Shadowed) (g' : GuestState) : Type 0 where
  pub is : IsInitiated (initiate (guest_of m.memory g) e) result (standing m s g) (standing m' s' g')
  pub stands : StandsFor m'.memory s' g'
  pub place : HasPlace g.pages g.base g.start g'
  pub only : OnlyGuest s m m'
