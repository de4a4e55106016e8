-- A guest in the machine, and its changes when something is done to it from outside (Karger and others, IEEE TSE 17(11), 1991:
-- virtual machines of a VMM security kernel; details are profile).
use Rattle.std.specs.Prelude.{◌≡◌, ℕ, ◌+◌, List, [], ◌∷◌, Bool}
use Rattle.vax_hw.specs.Machine.{Machine}
use Rattle.vm_stepping.specs.Guarded.{OnlyBoth}
use Rattle.vm_simulation_laws.specs.Present.{HasPresent}
use Rattle.vm_shadow.specs.Shadowed.{Shadowed}
use Rattle.vm_shadow.specs.StandsFor.{MakesTables, StandsFor}
use Rattle.vm_state.specs.Partition.{guest_of}
use Rattle.vm_state.specs.Start.{stopped_at_first}
use Rattle.vm_state.specs.State.{Guest, HasPlace, State, state_of}
use Rattle.vm_state.specs.Touches.{Present, at_first}
use Rattle.vm_state.specs.Translation.{frame_at}
use Rattle.vm_state.specs.declared.guest_state.GuestState.{GuestState}

-- what the kernel keeps of a guest
pub record Kept : Type 0 where
  pub state : GuestState
  pub shadow : Shadowed

-- its shadow page tables in the machine stand for its own
abbrev pub IsShadowedIn : List ℕ → Kept → Type 0
IsShadowedIn memory k = StandsFor memory k.shadow k.state

-- its memory and its registers
abbrev pub guest_in : List ℕ → Kept → Guest
guest_in memory k = guest_of memory k.state

-- a new guest, which was never started; no page is filled, and none is present by first touches
pub record IsNew (pages base tables start : ℕ) (modify_faults : Bool) (m m' : Machine) (k : Kept) : Type 0 where
  pub state : state_of k.state ≡ stopped_at_first start modify_faults
  pub place : HasPlace pages base start k.state
  pub made : MakesTables k.state tables m m' k.shadow
  pub present : HasPresent k.shadow (at_first (guest_in m'.memory k))

-- a guest that goes on with these registers; no page is filled, and none is present by first touches
pub record IsResumed (given : GuestState) (tables : ℕ) (m m' : Machine) (k : Kept) : Type 0 where
  pub state : k.state ≡ given
  pub made : MakesTables given tables m m' k.shadow
  pub present : HasPresent k.shadow (at_first (guest_in m'.memory k))

-- What first touches leave of what is present has entries in the shadow page tables then, if it had before.
abbrev pub KeepsPresent : (Present → Present) → Kept → Kept → Type 0
KeepsPresent left k k' = (p : Present) → HasPresent k.shadow p → HasPresent k'.shadow (left p)

-- the frames of bytes of its memory, from an address on
abbrev pub frames_from : ℕ → List ℕ → List ℕ
frames_from at [] = []
frames_from at (b ∷ bs) = frame_at at ∷ frames_from (at + 1) bs

-- It is this guest then; of the machine its memory and its real tables alone change.
pub record Becomes (h : Guest) (m : Machine) (k : Kept) (m' : Machine) (k' : Kept) : Type 0 where
  pub guest : guest_in m'.memory k' ≡ h
  pub stands : IsShadowedIn m'.memory k'
  pub rest : m' ≡ record m { memory = m'.memory }
  pub only : OnlyBoth k.shadow m.memory m'.memory
  pub place : HasPlace k.state.pages k.state.base k.state.start k'.state
  pub tables : k'.shadow.at ≡ k.shadow.at

-- It has these registers then; it is in every machine in which it was before.
pub record TakesState (x : State) (k k' : Kept) : Type 0 where
  pub state : state_of k'.state ≡ x
  pub place : HasPlace k.state.pages k.state.base k.state.start k'.state
  pub shadow : k'.shadow ≡ k.shadow
  pub stands : (memory : List ℕ) → IsShadowedIn memory k → IsShadowedIn memory k'
