-- Misses of the machine in a guest's steps, and first touches, of which there are at least as many.
use Rattle.std.specs.Prelude.{◌≡◌, ◌⊎◌, ℕ, ◌+◌, ◌≤◌, Bool, true, false, List, Err}
use Rattle.vax_arch.specs.declared.mode.Intent.{Intent}
use Rattle.vax_hw.specs.Machine.{Machine}
use Rattle.vax_table.specs.Interaction.{Cause}
use Rattle.vm_simulation_laws.specs.Paid.{IsSettled, Misses, Owes, touching_counted}
use Rattle.vm_simulation_laws.specs.Present.{HasPresent}
use Rattle.vm_simulation_laws.specs.Runs.{MissesThere}
use Rattle.vm_shadow.specs.Shadowed.{Shadowed}
use Rattle.vm_simulation_laws.specs.Laws.{place_here}
use Rattle.vm_state.specs.Partition.{guest_of}
use Rattle.vm_state.specs.State.{Guest}
use Rattle.vm_state.specs.Step.{executed}
use Rattle.vm_state.specs.Touches.{Touching, touching_step, touching_steps}
use Rattle.vm_state.specs.declared.guest_state.GuestState.{GuestState}
use Rattle.vm_exception.specs.Standing.{Standing}
use Rattle.vm_stepping.specs.declared.turns.Left.{Left}
use Rattle.vm_simulation_laws.specs.Touched.{AreFilled, touches_now}

-- The pages that were missed just now: none, or one that the guest's instruction touches and that isn't filled. Where the
-- guest has no place for the byte, the pages that gave bytes are filled.
pub record WereMissed (missed : ℕ) (i : Intent) (va : ℕ) (memory : List ℕ) (s : Shadowed) (g : GuestState) : Type 0 where
  pub there : (missed ≡ 0) ⊎ ((missed ≡ 1) × MissesThere va s (guest_of memory g))
  pub filled : (c : Cause) → place_here memory g i va ≡ Err c → AreFilled s (touches_now (guest_of memory g)).found

-- The step of a counted guest's instruction is made, in which some misses are outstanding and `missed` were made just now: first
-- touches count all of them in the step, and what is present after it has real entries.
pub record Settles (missed : ℕ) (m : Machine) (s : Shadowed) (g : GuestState) (m' : Machine) (s' : Shadowed) : Type 0 where
  pub more : ℕ
  pub misses : Misses more m m'
  pub settles : (owed : ℕ) (t : Touching) → Owes owed (touches_now (guest_of m.memory g)) s t → IsSettled owed (missed + more) t (touching_step (guest_of m.memory g) (executed (guest_of m.memory g)) t) s'

-- Pages are filled for the instruction, and its step isn't made: all misses are outstanding.
pub record OwesStill (missed : ℕ) (m : Machine) (s : Shadowed) (g : GuestState) (m' : Machine) (s' : Shadowed) : Type 0 where
  pub more : ℕ
  pub misses : Misses more m m'
  pub owes : (owed : ℕ) (t : Touching) → Owes owed (touches_now (guest_of m.memory g)) s t → Owes (owed + (missed + more)) (touches_now (guest_of m.memory g)) s' t

abbrev pub PaysFor : Bool → ℕ → Standing → Machine → Shadowed → Type 0
PaysFor true missed h m' s' = Settles missed h.machine h.tables h.state m' s'
PaysFor false missed h m' s' = OwesStill missed h.machine h.tables h.state m' s'

-- first touches of the steps that are left, of which the first may be counted already: then misses may be outstanding in it
abbrev pub touching_left : Bool → ℕ → Guest → Touching → Touching
touching_left true n h t = touching_counted n h t
touching_left false n h t = touching_steps n h t

abbrev pub OwesBy : Bool → ℕ → Guest → Shadowed → Touching → Type 0
OwesBy true owed h s t = Owes owed (touches_now h) s t
OwesBy false owed h s t = HasPresent s t.present × (owed ≡ 0)

-- First touches go on to where these steps are left: what is missed in between is counted, or outstanding there.
pub record TouchesGoOn (left left' : Left) (owed missed : ℕ) (t : Touching) (h h' : Guest) (s' : Shadowed) : Type 0 where
  pub at : Touching
  pub still : ℕ
  pub owes : OwesBy left'.counted still h' s' at
  pub counts : t.count + owed + missed ≤ at.count + still
  pub is : touching_left left.counted left.steps h t ≡ touching_left left'.counted left'.steps h' at

pub record PaysOn (left left' : Left) (m : Machine) (s : Shadowed) (g : GuestState) (m' : Machine) (s' : Shadowed) (g' : GuestState) : Type 0 where
  pub missed : ℕ
  pub misses : Misses missed m m'
  pub goes_on : (owed : ℕ) (t : Touching) → OwesBy left.counted owed (guest_of m.memory g) s t → TouchesGoOn left left' owed missed t (guest_of m.memory g) (guest_of m'.memory g') s'
