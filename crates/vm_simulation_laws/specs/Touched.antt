-- The pages that an instruction of the guest touches, and those for which the machine has a real entry. Shadow page tables
-- are filled on demand: the machine misses none but a page that the guest's instruction touches.
use Rattle.std.specs.Prelude.{◌≡◌, ◌⊎◌, ℕ, Bool, true, List, [], ◌∷◌, None, is_some, Ok, Err}
use Rattle.vax_arch.specs.Walk.{page_of}
use Rattle.vax_arch.specs.declared.mode.Intent.{Intent}
use Rattle.vax_hw.specs.Machine.{Machine}
use Rattle.vax_hw.specs.Real.{Retired, machine_step}
use Rattle.vax_hw.specs.declared.world.Exit.{Exit}
use Rattle.vax_hw.specs.declared.world.Exit.TheVariants as exits
use Rattle.vax_table.specs.Interaction.{Cause, IsIn}
use Rattle.vax_table.specs.Troubles.{intent_of}
use Rattle.vm_shadow.specs.Shadowed.{Shadowed, read_at}
use Rattle.vm_shadow.specs.StandsFor.{own_number}
use Rattle.vm_simulation_laws.specs.Laws.{place_here}
use Rattle.vm_simulation_laws.specs.Loaded.{RunsGuest}
use Rattle.vm_state.specs.Partition.{guest_of}
use Rattle.vm_state.specs.State.{Guest}
use Rattle.vm_state.specs.Step.{Touched, instruction_of, touched_by}
use Rattle.vm_state.specs.declared.guest_state.GuestState.{GuestState}

-- the pages that the guest's instruction touches: those that gave bytes, and the one that gave none
abbrev pub touches_now : Guest → Touched
touches_now h = touched_by h (instruction_of h.state)

abbrev pub IsTouched : ℕ → Touched → Type 0
IsTouched page t = IsIn page t.found ⊎ IsIn page t.lacking

-- A page is filled: the machine has a real entry for it, in the slot in use.
abbrev pub IsFilled : Shadowed → ℕ → Type 0
IsFilled s page = is_some (read_at s (own_number s page)) ≡ true

abbrev pub AreFilled : Shadowed → List ℕ → Type 0
AreFilled s pages = (page : ℕ) → IsIn page pages → IsFilled s page

-- A page was missed: it isn't filled, and the guest's instruction touches it. It is one that gave bytes where the guest
-- has a place for the byte, and else the one that gave none.
pub record IsMiss (i : Intent) (va : ℕ) (memory : List ℕ) (s : Shadowed) (g : GuestState) : Type 0 where
  pub empty : read_at s (own_number s (page_of va)) ≡ None
  pub touched : IsTouched (page_of va) (touches_now (guest_of memory g))
  pub found : (pa : ℕ) → place_here memory g i va ≡ Ok pa → IsIn (page_of va) (touches_now (guest_of memory g)).found
  pub lacking : (c : Cause) → place_here memory g i va ≡ Err c → (touches_now (guest_of memory g)).lacking ≡ page_of va ∷ []

abbrev pub MissesAreTouched : Type 0
MissesAreTouched = (opened : List ℕ) (m : Machine) (s : Shadowed) (g : GuestState) (va : ℕ) (write : Bool) → RunsGuest opened m s g → machine_step m ≡ Err (exits.NotValid va write) → IsMiss (intent_of write) va m.memory s g

-- Each page that the instruction touched gave its bytes, and is filled. Pages and entries are those before its stores.
pub record TouchesAreFilled (memory : List ℕ) (s : Shadowed) (g : GuestState) : Type 0 where
  pub found : AreFilled s (touches_now (guest_of memory g)).found
  pub lacking : (touches_now (guest_of memory g)).lacking ≡ []

abbrev pub RetiredPagesAreFilled : Type 0
RetiredPagesAreFilled = (opened : List ℕ) (m : Machine) (s : Shadowed) (g : GuestState) (x : Retired) → RunsGuest opened m s g → machine_step m ≡ Ok x → TouchesAreFilled m.memory s g

-- No page is to be filled for an exit: where the machine missed a page, the guest has no place for the byte either.
abbrev pub NeedsNoPage : Exit → List ℕ → GuestState → Type 0
NeedsNoPage (exits.NotValid va write) memory g = (c : Cause) × (place_here memory g (intent_of write) va ≡ Err c)
NeedsNoPage (exits.Denied va write) memory g = Unit {0}
NeedsNoPage (exits.Modify va) memory g = Unit {0}
NeedsNoPage (exits.Emulate t) memory g = Unit {0}
NeedsNoPage (exits.Refused r) memory g = Unit {0}
NeedsNoPage (exits.Arithmetic kind) memory g = Unit {0}
NeedsNoPage exits.Budget memory g = Unit {0}

abbrev pub StoppedPagesAreFilled : Type 0
StoppedPagesAreFilled = (opened : List ℕ) (m : Machine) (s : Shadowed) (g : GuestState) (e : Exit) → RunsGuest opened m s g → machine_step m ≡ Err e → NeedsNoPage e m.memory g → AreFilled s (touches_now (guest_of m.memory g)).found
