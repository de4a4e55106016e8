-- The machine with a guest loaded into it, and the guest's try of the instruction at its PC
-- (Hall and Robinson, Virtualizing the VAX Architecture, ISCA 1991: ring compression, VMPSL).
use Rattle.std.specs.Prelude.{◌≡◌, ◌⊎◌, ℕ, ◌+◌, ◌*◌, ◌<◌, ◌≤◌, List, [], ◌∷◌, length, slice_index}
use Rattle.vax_arch.specs.Fields.{current_of, previous_of}
use Rattle.vax_arch.specs.Ring.{ring_of}
use Rattle.vax_hw.specs.Machine.{Machine, machine_tables, seen_psl}
use Rattle.vax_hw.specs.declared.world.World.{World}
use Rattle.vax_table.specs.Tries.{Tried, tried}
use Rattle.vax_table.specs.Whole.{Meant}
use Rattle.vm_shadow.specs.Layout.{real_tables}
use Rattle.vm_shadow.specs.Shadowed.{Keeps, Shadowed, mapped_frame, real_at}
use Rattle.vm_shadow.specs.StandsFor.{Serves}
use Rattle.vm_state.specs.State.{Guest}
use Rattle.vm_state.specs.Step.{instruction_of}
use Rattle.vm_state.specs.Translation.{is_clear, space_of}
use Rattle.vm_state.specs.declared.guest_state.GuestState.{GuestState}

-- What is loaded is the guest's: its registers, the PSL that MOVPSL gives, its modes in the ring, and the real page tables
-- with the slot in use.
pub record HasGuestLoaded (w : World) (s : Shadowed) (g : GuestState) : Type 0 where
  pub r : w.r ≡ g.r
  pub psl : seen_psl w ≡ g.psl.0
  pub current : current_of w.psl.0 ≡ ring_of (current_of g.psl.0)
  pub previous : previous_of w.psl.0 ≡ ring_of (previous_of g.psl.0)
  pub tables : machine_tables w ≡ real_tables s.at s.slot

-- The machine runs a guest over its shadow page tables, of which these entries are opened for a guarded step.
pub record RunsGuest (opened : List ℕ) (m : Machine) (s : Shadowed) (g : GuestState) : Type 0 where
  pub keeps : Keeps [] opened m.memory s
  pub serves : Serves g s
  pub loads : HasGuestLoaded m.world s g

-- the guest's own try of the instruction at its PC
abbrev pub guest_try : Guest → Tried Meant
guest_try h = tried (space_of h) (is_clear h) (instruction_of h.state)

-- the guest with the registers and the status word that the machine has now
abbrev pub as_run : World → GuestState → GuestState
as_run w g = record g { r = w.r; psl = record { 0 = seen_psl w } }

-- the frames of the guest that opened entries map
abbrev pub frames_opened : List ℕ → Shadowed → List ℕ → List ℕ
frames_opened memory s [] = []
frames_opened memory s (n ∷ ns) = mapped_frame s (real_at memory s n) ∷ frames_opened memory s ns

-- Of the machine's memory the guest's own alone changes.
pub record OnlyPartition (g : GuestState) (before after : List ℕ) : Type 0 where
  pub size : length after ≡ length before
  pub other : (p : ℕ) → (p < 512 * g.base) ⊎ (512 * (g.base + g.pages) ≤ p) → slice_index after p ≡ slice_index before p
