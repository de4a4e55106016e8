-- A step of a guest that the kernel makes and counts, over a machine and the guest's shadow page tables.
use Rattle.std.specs.Prelude.{◌≡◌, ℕ, ◌+◌, ◌%◌, ◌^◌, ◌<◌, Bool, true, false, not, List, [], ◌++◌, is_some}
use Rattle.vax_hw.specs.Machine.{Machine}
use Rattle.vm_stepping.specs.Guarded.{OnlyBoth, count_below}
use Rattle.vm_console.specs.Appends.{Appends}
use Rattle.vm_simulation_laws.specs.Moves.{Moves}
use Rattle.vm_shadow.specs.Layout.{all_entries}
use Rattle.vm_shadow.specs.Shadowed.{Shadowed, read_at}
use Rattle.vm_shadow.specs.StandsFor.{StandsFor}
use Rattle.vm_simulation_laws.specs.Loaded.{guest_try}
use Rattle.vm_state.specs.Partition.{guest_of, partition_of}
use Rattle.vm_state.specs.Run.{Run, Tally, after_step}
use Rattle.vm_state.specs.State.{HasPlace}
use Rattle.vm_state.specs.Step.{Stepped, by_try}
use Rattle.vm_state.specs.declared.guest_state.GuestState.{GuestState}
use Rattle.vm_stepping.specs.declared.counts.Counts.{Counts}

-- the steps that are counted, by their kinds
abbrev pub tally_of : Counts → Tally
tally_of c = record { plain = c.plain; sensitive = c.sensitive; faults = c.faults; interrupts = c.interrupts; modify = c.modify; idle = c.idle; stopped = c.stopped; trail = c.trail }

-- no steps
abbrev pub no_counts : Counts
no_counts = record { plain = 0; sensitive = 0; faults = 0; interrupts = 0; modify = 0; idle = 0; stopped = 0; trail = 0 }

-- a guest's run so far
abbrev pub run_of : List ℕ → GuestState → Counts → List ℕ → Run
run_of memory g c shown = record { guest = guest_of memory g; shown = shown; tally = tally_of c }

-- steps of every kind
abbrev pub steps_in : Counts → ℕ
steps_in c = c.plain + c.sensitive + c.faults + c.interrupts + c.modify + c.idle + c.stopped

-- the refinement while a guest goes on: its shadow page tables stand for its own, and no byte beyond both changes
pub record KeepsRefinement (m : Machine) (s : Shadowed) (g : GuestState) (m' : Machine) (s' : Shadowed) (g' : GuestState) : Type 0 where
  pub stands : StandsFor m'.memory s' g'
  pub only : OnlyBoth s m.memory m'.memory
  pub place : HasPlace g.pages g.base g.start g'
  pub tables : s'.at ≡ s.at

-- the machine retired what is counted as plain
pub record CountsRetired (m : Machine) (c : Counts) (m' : Machine) (c' : Counts) : Type 0 where
  pub retired : (m'.retired + c.plain) % 2 ^ 64 ≡ (m.retired + c'.plain) % 2 ^ 64
  pub trail : (m'.trail + c.trail) % 2 ^ 64 ≡ (m.trail + c'.trail) % 2 ^ 64

-- how far a guest's run is: what is shown, the machine and the guest in it, and the steps that are counted
pub record Underway (Port : Type 0) : Type 0 where
  pub port : Port
  pub machine : Machine
  pub tables : Shadowed
  pub state : GuestState
  pub counts : Counts

abbrev pub underway : {Port : Type 0} → Port → Machine → Shadowed → GuestState → Counts → Underway Port
underway port m s g c = record { port = port; machine = m; tables = s; state = g; counts = c }

abbrev pub run_at : {Port : Type 0} → Underway Port → List ℕ → Run
run_at p shown = run_of p.machine.memory p.state p.counts shown

-- This step is made: what was read from frames that it writes may be dropped, the tables switch to its registers, and the machine
-- misses nothing.
pub record Made {Port : Type 0} (may : Port → List ℕ → Type 0) (x : Stepped) (before after : Underway Port) : Type 0 where
  pub run : (shown : List ℕ) → after_step (run_at before shown) x ≡ run_at after (shown ++ x.shown)
  pub shows : Appends may before.port after.port x.shown
  pub goes : KeepsRefinement before.machine before.tables before.state after.machine after.tables after.state
  pub one : steps_in after.counts ≡ steps_in before.counts + 1
  pub retired : CountsRetired before.machine before.counts after.machine after.counts
  pub misses : after.machine.misses ≡ before.machine.misses
  pub moves : Moves x.written x.guest.state.tables before.tables after.tables

-- how many entries aren't filled
unfoldable pub unfilled : Shadowed → ℕ
unfilled s = count_below (λ n. not (is_some (read_at s n))) all_entries

-- Pages of the guest are filled, of which one wasn't; nothing of the guest changes, and no step is made.
pub record Refills (m : Machine) (s : Shadowed) (g : GuestState) (m' : Machine) (s' : Shadowed) (g' : GuestState) : Type 0 where
  pub guest : g' ≡ g
  pub stands : StandsFor m'.memory s' g
  pub own : partition_of m'.memory g ≡ partition_of m.memory g
  pub machine : m' ≡ record m { memory = m'.memory; world = m'.world; misses = m'.misses }
  pub only : OnlyBoth s m.memory m'.memory
  pub tables : s'.at ≡ s.at
  pub fewer : unfilled s' < unfilled s

-- pages alone are filled in a guest's run
abbrev pub OnlyRefills : {Port : Type 0} → (Port → List ℕ → Type 0) → (before after : Underway Port) → Type 0
OnlyRefills may before after =
    Refills before.machine before.tables before.state after.machine after.tables after.state
    × (after.counts ≡ before.counts) × Appends may before.port after.port []

-- A counted guest's instruction: the step in which it is reached is made; or pages are filled, and it is tried again.
abbrev pub IsMet : {Port : Type 0} → (Port → List ℕ → Type 0) → Bool → (before after : Underway Port) → Type 0
IsMet may true before after =
    Made may (by_try (guest_of before.machine.memory before.state) (guest_try (guest_of before.machine.memory before.state))) before after
IsMet may false before after = OnlyRefills may before after
