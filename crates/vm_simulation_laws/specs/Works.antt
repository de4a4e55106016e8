-- The kernel's work by its kinds: what the shadow page tables' own relations drop and switch to, and the steps of a guest that do
-- each.
use Rattle.std.specs.Prelude.{◌≡◌, ℕ, ◌+◌, ◌≤◌, [], ◌∷◌, None, Ok}
use Rattle.vax_arch.specs.declared.walk.Lookup.{Lookup}
use Rattle.vax_hw.specs.Machine.{Machine}
use Rattle.vax_hw.specs.Real.{Retired, machine_step}
use Rattle.vm_simulation_laws.specs.Moves.{Drops}
use Rattle.vm_simulation_laws.specs.Present.{HasPresent, to_miss}
use Rattle.vm_shadow.specs.Shadowed.{Shadowed}
use Rattle.vm_shadow.specs.StandsFor.{DropsFrom, DropsMarked, Retells, Switches}
use Rattle.vm_simulation_laws.specs.Loaded.{RunsGuest}
use Rattle.vm_state.specs.Partition.{guest_of}
use Rattle.vm_state.specs.State.{Guest, tables_of}
use Rattle.vm_state.specs.Step.{executed}
use Rattle.vm_state.specs.Touches.{Touching, touching_step}
use Rattle.vm_state.specs.Translation.{marks_by}
use Rattle.vm_state.specs.declared.guest_state.GuestState.{GuestState}
use Rattle.vm_simulation_laws.specs.Touched.{touches_now}

-- one frame that is written
abbrev pub OneFrameIsDropped : Type 0
OneFrameIsDropped = (frame : ℕ) (s s' : Shadowed) → DropsFrom frame s s' → Drops (frame ∷ []) s s'

-- a modify bit that is set
abbrev pub MarksAreDropped : Type 0
MarksAreDropped = (look : Lookup) (s s' : Shadowed) → DropsMarked look s s' → Drops (marks_by look) s s'

-- another context
abbrev pub SwitchesRetell : Type 0
SwitchesRetell = (g : GuestState) (m m' : Machine) (s s' : Shadowed) → Switches g m s m' s' → Retells (tables_of g) s s'

-- A step of a guest without a change of entries: what is present after it has entries, and the touched pages that the machine
-- could still miss are counted.
pub record StepIsCounted (s : Shadowed) (h : Guest) (t : Touching) : Type 0 where
  pub has : HasPresent s (touching_step h (executed h) t).present
  pub count : t.count + to_miss s (touches_now h) ≤ (touching_step h (executed h) t).count

abbrev pub RetiredStepsAreCounted : Type 0
RetiredStepsAreCounted = (m : Machine) (s : Shadowed) (g : GuestState) (x : Retired) (t : Touching) → RunsGuest [] m s g → machine_step m ≡ Ok x → x.trap ≡ None → HasPresent s t.present → StepIsCounted s (guest_of m.memory g) t
