-- A run of the machine for a guest, as the kernel makes it.
use Rattle.std.specs.Prelude.{◌≡◌, ℕ, ◌+◌, ◌-◌, ◌/◌, ◌%◌, ◌^◌, ◌<◌, Some, None}
use Rattle.vax_hw.specs.Machine.{Machine}
use Rattle.vax_hw.specs.Real.{real}
use Rattle.vax_hw.specs.declared.world.Exit.{Exit}
use Rattle.vax_hw.specs.declared.world.Exit.TheVariants.{Arithmetic, Budget}
use Rattle.vax_hw.specs.declared.world.World.{World}
use Rattle.vm_stepping.specs.declared.bursts.Ran.{Ran}
use Rattle.vm_simulation_laws.specs.Paid.{Owes, touching_counted}
use Rattle.vm_simulation_laws.specs.Runs.{EndsAt, Reaches}
use Rattle.vm_shadow.specs.Shadowed.{Shadowed}
use Rattle.vm_shadow.specs.StandsFor.{StandsFor}
use Rattle.vm_simulation_laws.specs.Bursts.{EndsBurst, after_counted, counted_by, goes_on, missed_by, with_count, with_plain_steps}
use Rattle.vm_simulation_laws.specs.Laws.{Leaves}
use Rattle.vm_simulation_laws.specs.Loaded.{OnlyPartition, as_run}
use Rattle.vm_state.specs.Partition.{guest_of}
use Rattle.vm_state.specs.Run.{Run}
use Rattle.vm_state.specs.State.{Guest}
use Rattle.vm_state.specs.Touches.{Touching}
use Rattle.vm_state.specs.declared.guest_state.GuestState.{GuestState}
use Rattle.vm_simulation_laws.specs.Touched.{touches_now}

-- how much a count of 64 bits rose
abbrev pub rise : ℕ → ℕ → ℕ
rise before now = (now + (2 ^ 64 - before)) % 2 ^ 64

-- the outcome of a run of the machine: why it ended, how much its counts rose, and what is loaded then
pub record Ended : Type 0 where
  pub exit : Exit
  pub done : ℕ
  pub terms : ℕ
  pub world : World

-- the machine ran with a world loaded
pub record RunsMachine (n : ℕ) (m : Machine) (w : World) (ended : Ended) (m' : Machine) : Type 0 where
  pub ran : (m', ended.exit) ≡ real n (record m { world = w })
  pub done : ended.done ≡ rise m.retired m'.retired
  pub terms : ended.terms ≡ rise m.trail m'.trail
  pub world : ended.world ≡ m'.world
  pub retired : m.retired < 2 ^ 64
  pub trail : m.trail < 2 ^ 64

-- A run of one instruction: it retired, and left the guest with this trap; or the guest is as it was.
abbrev pub IsAlone : Exit → Guest → Guest → Type 0
IsAlone Budget h after = Leaves h after None
IsAlone (Arithmetic kind) h after = Leaves h after (Some kind)
IsAlone e h after = after ≡ h

-- The machine ran: of n instructions it retired `done`, which were plain steps of the guest, with the sum of their terms of the
-- trail. The exit says how the guest goes on, and which pages are touched. It missed no page in these steps, and what is present
-- after them by first touches has real entries.
pub record IsRun (n : ℕ) (m : Machine) (s : Shadowed) (g : GuestState) (ran : Ran) (m' : Machine) (g' : GuestState) : Type 0 where
  pub left : ℕ
  pub budget : ran.done + left ≡ n
  pub steps : (run : Run) → run.guest ≡ guest_of m.memory g → run.tally.trail < 2 ^ 64 → after_counted n run ≡ goes_on ran.exit left (with_plain_steps run (guest_of m'.memory g') ran.done ran.terms)
  pub alone : n ≡ 1 → IsAlone ran.exit (guest_of m.memory g) (guest_of m'.memory g')
  pub is : g' ≡ with_count (counted_by ran.exit ran.done) (as_run m'.world g)
  pub stands : StandsFor m'.memory s g'
  pub high : g'.psl.0 / 2 ^ 8 ≡ g.psl.0 / 2 ^ 8
  pub only : OnlyPartition g m.memory m'.memory
  pub ends : EndsBurst ran.exit ran.done left m'.memory s g'
  pub retired : m'.retired % 2 ^ 64 ≡ (m.retired + ran.done) % 2 ^ 64
  pub trail : m'.trail % 2 ^ 64 ≡ (m.trail + ran.terms) % 2 ^ 64
  pub misses : m'.misses % 2 ^ 64 ≡ (m.misses + missed_by ran.exit) % 2 ^ 64
  pub reaches : Reaches ran.exit m'.memory s g'
  pub touches : (owed : ℕ) (t : Touching) → Owes owed (touches_now (guest_of m.memory g)) s t → EndsAt ran.exit left (t.count + owed) (touching_counted n (guest_of m.memory g) t) s (guest_of m'.memory g')
