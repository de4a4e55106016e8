-- Steps of a guest that the kernel makes, of which the next one may be counted already.
use Rattle.std.specs.Prelude.{◌≡◌, ℕ, ◌+◌, ◌-◌, ◌*◌, ◌^◌, ◌<◌, ◌≤◌, IsTrue, Bool, true, false, if◌then◌else◌, List, ◌++◌, []}
use Rattle.vax_hw.specs.Machine.{Machine}
use Rattle.vm_clock.specs.Ticks.{ticks_to_wrap}
use Rattle.vm_console.specs.Appends.{Appends}
use Rattle.vm_shadow.specs.Layout.{all_entries}
use Rattle.vm_shadow.specs.Shadowed.{Shadowed}
use Rattle.vm_simulation_laws.specs.Bursts.{IsQuiet, after_counted, with_count}
use Rattle.vm_state.specs.Run.{Run, after_steps}
use Rattle.vm_state.specs.State.{state_of}
use Rattle.vm_state.specs.declared.guest_state.GuestState.{GuestState}
use Rattle.vm_stepping.specs.Made.{CountsRetired, KeepsRefinement, OnlyRefills, Underway, no_counts, run_at, run_of, steps_in, unfilled}
use Rattle.vm_stepping.specs.declared.counts.Counts.{Counts}
use Rattle.vm_stepping.specs.declared.turns.Left.{Left}

-- A counted guest's instruction is done, with the trap after it: that is its step.
pub record Steps {Port : Type 0} (may : Port → List ℕ → Type 0) (before after : Underway Port) : Type 0 where
  pub text : List ℕ
  pub run : (shown : List ℕ) → after_counted 1 (run_at before shown) ≡ run_at after (shown ++ text)
  pub shows : Appends may before.port after.port text
  pub goes : KeepsRefinement before.machine before.tables before.state after.machine after.tables after.state
  pub one : steps_in after.counts ≡ steps_in before.counts + 1
  pub retired : CountsRetired before.machine before.counts after.machine after.counts

-- the step is made; or pages are filled, and the instruction is tried again
abbrev pub StepsOrRefills : {Port : Type 0} → (Port → List ℕ → Type 0) → Bool → (before after : Underway Port) → Type 0
StepsOrRefills may true before after = Steps may before after
StepsOrRefills may false before after = OnlyRefills may before after

-- the steps that are left, of which the first may be counted already
abbrev pub after_left_steps : Left → Run → Run
after_left_steps left run = if left.counted then after_counted left.steps run else after_steps left.steps run

-- a guest whose next step is counted reaches its instruction in it
abbrev pub IsBegun : Left → GuestState → Type 0
IsBegun left g = left.counted ≡ true → (1 ≤ left.steps) × IsQuiet 1 (state_of g)

-- Some of the steps that are left are made, or the next is begun, or pages are filled for it.
pub record Proceeds {Port : Type 0} (may : Port → List ℕ → Type 0) (left left' : Left) (before after : Underway Port) : Type 0 where
  pub text : List ℕ
  pub run : (shown : List ℕ) → after_left_steps left (run_at before shown) ≡ after_left_steps left' (run_at after (shown ++ text))
  pub shows : Appends may before.port after.port text
  pub goes : KeepsRefinement before.machine before.tables before.state after.machine after.tables after.state
  pub kinds : steps_in after.counts + left'.steps ≡ steps_in before.counts + left.steps
  pub fewer : left'.steps ≤ left.steps
  pub retired : CountsRetired before.machine before.counts after.machine after.counts
  pub begun : IsBegun left' after.state

-- A guest whose next step is counted is idle in it and in some that follow, in none of which its clock wraps.
pub record Idles (steps : ℕ) (left : Left) (g : GuestState) (c : Counts) (g' : GuestState) (c' : Counts) : Type 0 where
  pub more : ℕ
  pub most : more + 1 ≤ steps
  pub within : IsTrue g.clock.run → more < ticks_to_wrap g.clock
  pub left_is : left ≡ record { steps = steps - (more + 1); counted = false }
  pub small : g.steps < 2 ^ 32
  pub guest : g' ≡ with_count more g
  pub counts : c' ≡ record c { idle = c.idle + (more + 1) }

-- How much is to do at most: the steps that are left, each with a fill of every entry and its beginning.
abbrev pub to_do : Left → Shadowed → ℕ
to_do left s = 2 * ((all_entries + 1) * left.steps + unfilled s) + (if left.counted then 0 else 1)

-- `steps` steps of a guest, none of which is counted yet
pub record Advances {Port : Type 0} (may : Port → List ℕ → Type 0) (steps : ℕ) (port port' : Port) (m : Machine) (s : Shadowed) (g : GuestState) (m' : Machine) (s' : Shadowed) (g' : GuestState) (c : Counts) : Type 0 where
  pub text : List ℕ
  pub run : after_steps steps (run_of m.memory g no_counts []) ≡ run_of m'.memory g' c text
  pub shows : Appends may port port' text
  pub goes : KeepsRefinement m s g m' s' g'
  pub kinds : steps_in c ≡ steps
  pub retired : CountsRetired m no_counts m' c
