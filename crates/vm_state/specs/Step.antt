-- One step of a guest that is alone on its private virtual VAX
-- (Hall and Robinson, Virtualizing the VAX Architecture, ISCA 1991; Karger and others, IEEE TSE 17(11), 1991; VAX
-- Architecture Reference Manual: instruction execution, exceptions and interrupts).
use Rattle.std.specs.Prelude.{ℕ, ◌+◌, ◌-◌, ◌%◌, ◌^◌, if◌then◌else◌, List, [], ◌∷◌, ◌++◌, length, map, take, drop, Option, Some, None, Result, Ok, Err}
use Rattle.vv_base.specs.Width.{size_of}
use Rattle.vax_arch.specs.Walk.{page_of}
use Rattle.vax_table.specs.Claims.{addresses}
use Rattle.vax_table.specs.Effects.{Effect, long_of}
use Rattle.vax_table.specs.Plan.{probed}
use Rattle.vax_table.specs.Interaction.{At, Interaction, Test, Trouble, outcome, reached}
use Rattle.vax_table.specs.Stores.{all_stored}
use Rattle.vax_table.specs.Trail.{term}
use Rattle.vax_table.specs.Tries.{Clear, Completes, Tried, tried}
use Rattle.vax_table.specs.Tries as tries
use Rattle.vax_table.specs.Whole.{Act, Meant, Probes, Traps, instruction, is_kernel_mode}
use Rattle.vax_table.specs.Whole as whole
use Rattle.vax_table.specs.declared.effect.Store.{Store}
use Rattle.vax_table.specs.declared.evaluation.Operands.{Operands}
use Rattle.vm_clock.specs.Clock.{after_tick}
use Rattle.vm_state.specs.Initiate.{Initiation, KernelStackBad, StopsGuest, Taken, initiate}
use Rattle.vm_state.specs.Interrupts.{Source, due, interrupt_of, source_row}
use Rattle.vm_state.specs.Probe.{Answers, NotValid, Probed, probe}
use Rattle.vm_state.specs.Probe as probes
use Rattle.vm_state.specs.Sensed.{ClearAt, Does, Faults, LacksMemory, Sensed, StopsThere, troubled}
use Rattle.vm_state.specs.Sensitive.{frames_of_bytes, sensed, with_psw}
use Rattle.vm_state.specs.State.{Guest, State, mode_of_state, pc_of}
use Rattle.vm_state.specs.Stops.{PastMemory, Stop, stop_code, stop_text}
use Rattle.vm_state.specs.Translation.{guest_write_place, is_clear, look, marked_by, marks_by, space_of}
use Rattle.vm_state.specs.declared.exception.Exc.{Exc}
use Rattle.vm_state.specs.declared.exception.Exc.TheVariants as excs

-- The kinds of step: the guest has stopped; an interrupt is taken; it waits; a modify bit is set; a plain instruction
-- completes, with its term of the trail; a sensitive one completes; a fault is initiated.
pub data Kind : Type 0 where
  Stopped Interrupt Idle SetModify : Kind
  Plain : ℕ → Kind
  Sensitive Fault : Kind

-- the pages that an instruction's accesses touch, up to and with the first trouble: those that gave bytes, and the one
-- that gave none
pub record Touched : Type 0 where
  pub found : List ℕ
  pub lacking : List ℕ

-- the guest after a step, the bytes that it shows on its console, the kind, the pages touched, the frames written
pub record Stepped : Type 0 where
  pub guest : Guest
  pub shown : List ℕ
  pub kind : Kind
  pub touched : Touched
  pub written : List ℕ

abbrev pub stepped : Guest → List ℕ → Kind → List ℕ → Stepped
stepped g shown kind written = record { guest = g; shown = shown; kind = kind; touched = record { found = []; lacking = [] }; written = written }

-- It stops with a code, and says so with its PC; all else of it stays.
abbrev pub stopped : Guest → Stop → Kind → Stepped
stopped g stop kind = stepped (record g { state = record g.state { halt = Some (stop_code stop) } }) (stop_text (stop_code stop) (pc_of g.state)) kind []

-- an initiation, in a step of this kind; where it stops the guest, that stops as it is here
abbrev pub initiated_in : Kind → Guest → Initiation → Stepped
initiated_in kind g (Taken h written) = stepped h [] kind written
initiated_in kind g (KernelStackBad h written) = stepped h [] kind written
initiated_in kind g (StopsGuest stop) = stopped g stop kind

-- a fault of the instruction at PC, of which nothing happened
abbrev pub faulted : Guest → Exc → Stepped
faulted g e = initiated_in Fault g (initiate g e)

-- The page of a byte that would be written has a clear modify bit: it is set, and the instruction begins again at the
-- next step; or a guest with modify faults gets one.
abbrev pub clear_met : Guest → ℕ → Stepped
clear_met g va =
    if g.state.modify_faults then faulted g (excs.ModifyFault va) else
    stepped (record g { memory = marked_by (look g (page_of va)) g.memory }) [] SetModify (marks_by (look g (page_of va)))

-- a sensitive instruction
abbrev pub sensed_as : Guest → Sensed → Stepped
sensed_as g (Does h shown written) = stepped h shown Sensitive written
sensed_as g (Faults e) = faulted g e
sensed_as g (ClearAt va) = clear_met g va
sensed_as g (StopsThere stop) = stopped g stop Sensitive
sensed_as g LacksMemory = stopped g PastMemory Fault

-- the frames of stores
abbrev pub frames_stored : Guest → List Store → List ℕ
frames_stored g [] = []
frames_stored g (x ∷ xs) = frames_of_bytes g (addresses (size_of x.width) x.va) ++ frames_stored g xs

-- the guest after a plain instruction: its stores are made in order, at the places of before the first
abbrev pub with_effect : Guest → Effect → Guest
with_effect g e = record { memory = all_stored (guest_write_place g) e.writes g.memory; state = record g.state { r = e.r; psl = with_psw g.state.psl e.psw } }

-- its arithmetic trap is initiated after it, in the same step
abbrev pub trapped_in : Kind → List ℕ → Guest → Option ℕ → Stepped
trapped_in kind written h None = stepped h [] kind written
trapped_in kind written h (Some type) =
    let s = initiated_in kind h (initiate h (excs.Arithmetic type)) in
    record s { written = written ++ s.written }

-- PROBE is plain where both entries are found, valid and name frames in memory, and else sensitive
abbrev pub probed_as : Guest → ℕ → Operands → Probed → Stepped
probed_as g opcode o (Answers is_accessible is_plain) =
    stepped (with_effect g (probed is_accessible o (g.state.psl % 2 ^ 8))) [] (if is_plain then Plain (term (pc_of g.state) opcode o.r) else Sensitive) []
probed_as g opcode o (NotValid f) = faulted g (excs.Memory f)
probed_as g opcode o probes.PastMemory = stopped g PastMemory Fault

-- an instruction with this outcome
abbrev pub did : Guest → ℕ → Act → Stepped
did g opcode (whole.Plain e) = trapped_in (Plain (term (pc_of g.state) opcode e.r)) (frames_stored g e.writes) (with_effect g e) e.trap
did g opcode (Traps t) = sensed_as g (sensed g t t.op)
did g opcode (Probes i o) = probed_as g opcode o (probe g i (long_of o 0) (long_of o 1) (long_of o 2))

-- by the try of the instruction at PC
abbrev pub by_try : Guest → Tried Meant → Stepped
by_try g (Completes meant) = did g meant.opcode meant.act
by_try g (Clear va) = clear_met g va
by_try g (tries.Stopped trouble) = sensed_as g (troubled g trouble)

-- the instruction at PC, in the guest's mode and with its PSL
abbrev pub instruction_of : State → Interaction Meant
instruction_of s = instruction (is_kernel_mode (mode_of_state s)) s.psl s.r

-- the pages of the bytes that were asked for, of which the last has trouble where an access does
abbrev pub pages_touched : {A : Type 0} → List ℕ → Result A Trouble → Touched
pages_touched vas (Err (At cause i va)) = record { found = map page_of (take (length vas - 1) vas); lacking = map page_of (drop (length vas - 1) vas) }
pages_touched vas (Err (Test refusal)) = record { found = map page_of vas; lacking = [] }
pages_touched vas (Ok a) = record { found = map page_of vas; lacking = [] }

abbrev pub touched_by : Guest → Interaction Meant → Touched
touched_by g m = pages_touched (reached (space_of g) m) (outcome (space_of g) m)

-- the instruction at PC completes, or its first trouble counts
unfoldable pub executed : Guest → Stepped
executed g =
    let m = instruction_of g.state in
    record (by_try g (tried (space_of g) (is_clear g) m)) { touched = touched_by g m }

-- an interrupt is taken, and its request ends; where it isn't taken itself, the request stays
abbrev pub interrupted : Guest → Source → Initiation → Stepped
interrupted g source (Taken h written) = stepped (record h { state = (source_row source).taken h.state }) [] Interrupt written
interrupted g source (KernelStackBad h written) = stepped h [] Interrupt written
interrupted g source (StopsGuest stop) = stopped g stop Interrupt

-- the clock counts once, and so do the guest's steps
abbrev pub counted : State → State
counted s = record s { clock = after_tick s.clock; steps = (s.steps + 1) % 2 ^ 32 }

-- A guest that has stopped stays as it is. Another one counts, and takes an interrupt that is due; without one, a waiting guest
-- stays, and another executes its instruction.
unfoldable pub step : Guest → Stepped
step before = elim (before.state.halt) [
  | Some code ↦ stepped before [] Stopped []
  | None ↦ let g : Guest = record before { state = counted before.state } in elim (due g.state) [
    | Some source ↦ interrupted g source (initiate g (interrupt_of source))
    | None ↦ if g.state.waiting then stepped g [] Idle [] else executed g
  ]
]
