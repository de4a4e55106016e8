-- Laws of a guest's steps.
use Rattle.std.specs.Prelude.{◌≡◌, ℕ, ◌+◌, ◌*◌, ◌%◌, ◌^◌, ◌≤◌, [], length, Option, Some, None}
use Rattle.vax_arch.specs.declared.mode.Intent.{Intent}
use Rattle.vax_arch.specs.declared.mode.Mode.{Mode}
use Rattle.vm_state.specs.Allowed.{AreAllowed}
use Rattle.vm_state.specs.Run.{Run, after_steps}
use Rattle.vm_state.specs.State.{Guest}
use Rattle.vm_state.specs.Step.{Stopped, step, stepped}
use Rattle.vm_state.specs.Translation.{walk_of}
use Rattle.vm_state.specs.declared.walk.Walk.TheVariants.{Frame}

-- a step shows at most 14 bytes, as many as the text of a guest that stops has
abbrev pub ShowsFew : Type 0
ShowsFew = (n : ℕ) (run : Run) → length (after_steps n run).shown ≤ length run.shown + 14 * n

-- a guest that has stopped stays as it is, and shows and touches nothing
abbrev pub StaysStopped : Type 0
StaysStopped = (g : Guest) (code : ℕ) → g.state.halt ≡ Some code → step g ≡ stepped g [] Stopped []

-- What a step keeps: the size of memory, whether there are modify faults, and that registers have allowed values; it
-- counts itself, whatever it is, where the guest runs.
pub record StepKeeps (g h : Guest) : Type 0 where
  pub size : length h.memory ≡ length g.memory
  pub modify_faults : h.state.modify_faults ≡ g.state.modify_faults
  pub allowed : AreAllowed (length g.memory) g.state → AreAllowed (length g.memory) h.state

abbrev pub StepsKeep : Type 0
StepsKeep = (g : Guest) → StepKeeps g (step g).guest

abbrev pub StepsCount : Type 0
StepsCount = (g : Guest) → g.state.halt ≡ None → (step g).guest.state.steps ≡ (g.state.steps + 1) % 2 ^ 32

-- where two modes find a frame for an address, it is the same byte by the same entries
abbrev pub FindsOneEntry : Type 0
FindsOneEntry = (g : Guest) (va : ℕ) (m n : Mode) (i j : Intent) (pa qa : ℕ) (entry other table above : Option ℕ) →
    walk_of g va m i ≡ Frame pa entry table → walk_of g va n j ≡ Frame qa other above → (pa ≡ qa) × (entry ≡ other) × (table ≡ above)
