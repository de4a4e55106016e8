-- A run of the machine, and the steps of the guest that it stands for.
use Rattle.std.specs.Prelude.{◌≡◌, ℕ, zero, suc, ◌+◌, ◌-◌, ◌/◌, ◌%◌, ◌^◌, ◌<◌, ◌≤◌, false, List, [], ◌++◌, None}
use Rattle.vax_hw.specs.Machine.{Machine}
use Rattle.vax_hw.specs.Real.{real}
use Rattle.vax_hw.specs.declared.world.Exit.{Exit}
use Rattle.vax_hw.specs.declared.world.Exit.TheVariants.{Arithmetic, Budget, Denied, Emulate, Modify, NotValid, Refused}
use Rattle.vm_clock.specs.Ticks.{after_ticks}
use Rattle.vm_shadow.specs.Shadowed.{Shadowed}
use Rattle.vm_simulation_laws.specs.Laws.{Meets}
use Rattle.vm_simulation_laws.specs.Loaded.{OnlyPartition, RunsGuest, as_run}
use Rattle.vm_state.specs.Initiate.{initiate}
use Rattle.vm_state.specs.Interrupts.{due}
use Rattle.vm_state.specs.Partition.{guest_of}
use Rattle.vm_state.specs.Run.{Run, after_step, after_steps}
use Rattle.vm_state.specs.State.{Guest, State, state_of}
use Rattle.vm_state.specs.Step.{Idle, executed, initiated_in}
use Rattle.vm_state.specs.declared.exception.Exc.TheVariants as excs
use Rattle.vm_state.specs.declared.guest_state.GuestState.{GuestState}

-- n steps of a guest, of which the first is counted already and reaches its instruction.
abbrev pub after_counted : ℕ → Run → Run
after_counted zero run = run
after_counted (suc n) run = after_steps n (after_step run (executed run.guest))

-- with n steps more counted
abbrev pub with_count : ℕ → GuestState → GuestState
with_count n g = record g { clock = after_ticks n g.clock; steps = (g.steps + n) % 2 ^ 32 }

-- In n steps, of which the first is counted, nothing happens to a guest but its instructions: it doesn't wait, and no interrupt
-- becomes due.
pub record IsQuiet (n : ℕ) (s : State) : Type 0 where
  pub runs : s.halt ≡ None
  pub waits : s.waiting ≡ false
  pub none : (k : ℕ) → k < n → due (record s { clock = after_ticks k s.clock }) ≡ None

-- `plain` plain steps more, with the sum of their terms of the trail
abbrev pub with_plain_steps : Run → Guest → (plain terms : ℕ) → Run
with_plain_steps run h plain terms = record { guest = h; shown = run.shown; tally = record run.tally { plain = run.tally.plain + plain; trail = (run.tally.trail + terms) % 2 ^ 64 } }

-- an arithmetic trap is initiated in the step of its instruction
abbrev pub with_trap : ℕ → Run → Run
with_trap kind run =
    let s = initiated_in Idle run.guest (initiate run.guest (excs.Arithmetic kind)) in
    record run { guest = s.guest; shown = run.shown ++ s.shown }

-- what is left to do after a run of the machine that ended so
abbrev pub goes_on : Exit → (left : ℕ) → Run → Run
goes_on Budget left run = run
goes_on (Arithmetic kind) left run = after_steps left (with_trap kind run)
goes_on (NotValid va write) left run = after_counted left run
goes_on (Denied va write) left run = after_counted left run
goes_on (Modify va) left run = after_counted left run
goes_on (Emulate t) left run = after_counted left run
goes_on (Refused r) left run = after_counted left run

-- the steps that were counted besides the first: the one that the next instruction is in, too
abbrev pub counted_by : Exit → (done : ℕ) → ℕ
counted_by Budget done = done - 1
counted_by (Arithmetic kind) done = done - 1
counted_by (NotValid va write) done = done
counted_by (Denied va write) done = done
counted_by (Modify va) done = done
counted_by (Emulate t) done = done
counted_by (Refused r) done = done

-- what an exit says, with the numbers of the budget's instructions that are done and left
abbrev pub EndsBurst : Exit → (done left : ℕ) → List ℕ → Shadowed → GuestState → Type 0
EndsBurst Budget done left memory s g = (left ≡ 0) × (1 ≤ done)
EndsBurst (Arithmetic kind) done left memory s g = 1 ≤ done
EndsBurst (NotValid va write) done left memory s g = (1 ≤ left) × Meets (NotValid va write) memory s g
EndsBurst (Denied va write) done left memory s g = (1 ≤ left) × Meets (Denied va write) memory s g
EndsBurst (Modify va) done left memory s g = (1 ≤ left) × Meets (Modify va) memory s g
EndsBurst (Emulate t) done left memory s g = (1 ≤ left) × Meets (Emulate t) memory s g
EndsBurst (Refused r) done left memory s g = (1 ≤ left) × Meets (Refused r) memory s g

abbrev pub missed_by : Exit → ℕ
missed_by (NotValid va write) = 1
missed_by e = 0

-- The machine retired `done` of n instructions, which were plain steps of the guest; the exit says how the guest goes on.
pub record IsBurst (n : ℕ) (m : Machine) (s : Shadowed) (g : GuestState) (m' : Machine) (e : Exit) : Type 0 where
  pub done : ℕ
  pub left : ℕ
  pub terms : ℕ
  pub budget : done + left ≡ n
  pub steps : (run : Run) → run.guest ≡ guest_of m.memory g → run.tally.trail < 2 ^ 64 → after_counted n run ≡ goes_on e left (with_plain_steps run (guest_of m'.memory (with_count (counted_by e done) (as_run m'.world g))) done terms)
  pub runs : RunsGuest [] m' s (as_run m'.world g)
  pub high : (as_run m'.world g).psl.0 / 2 ^ 8 ≡ g.psl.0 / 2 ^ 8
  pub only : OnlyPartition g m.memory m'.memory
  pub ends : EndsBurst e done left m'.memory s (as_run m'.world g)
  pub retired : m'.retired % 2 ^ 64 ≡ (m.retired + done) % 2 ^ 64
  pub trail : m'.trail % 2 ^ 64 ≡ (m.trail + terms) % 2 ^ 64
  pub misses : m'.misses % 2 ^ 64 ≡ (m.misses + missed_by e) % 2 ^ 64

abbrev pub RunsGoAsTheGuest : Type 0
RunsGoAsTheGuest = (n : ℕ) (m : Machine) (s : Shadowed) (g : GuestState) → 1 ≤ n → g.steps < 2 ^ 32 → RunsGuest [] m s g → IsQuiet n (state_of g) → IsBurst n m s g (real n m).0 (real n m).1
