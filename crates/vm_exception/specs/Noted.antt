-- What is noted of a guest's next step beside its kind: the vector that an exception or an interrupt takes, or the page whose
-- modify bit is set. The cases are those of `step`.
use Rattle.std.specs.Prelude.{ℕ, ◌*◌, ◌/◌, Bool, true, false, if◌then◌else◌, Option, Some, None}
use Rattle.vax_table.specs.Effects.{long_of}
use Rattle.vax_table.specs.Tries.{Clear, Completes, Tried, tried}
use Rattle.vax_table.specs.Tries as tries
use Rattle.vax_table.specs.Whole.{Act, Meant, Probes, Traps}
use Rattle.vax_table.specs.Whole as whole
use Rattle.vm_exception.specs.declared.note.Note.{Note}
use Rattle.vm_exception.specs.declared.note.Note.TheVariants.{Nothing, Vector, Page}
use Rattle.vm_exception.specs.declared.initiated.Initiated.{Initiated}
use Rattle.vm_exception.specs.declared.initiated.Initiated.TheVariants as outcomes
use Rattle.vm_state.specs.Initiate.{Initiation, KernelStackBad, StopsGuest, Taken, initiate, vector_offset}
use Rattle.vm_state.specs.Interrupts.{Source, due, interrupt_of}
use Rattle.vm_state.specs.Probe.{Answers, NotValid, Probed, probe}
use Rattle.vm_state.specs.Probe as probes
use Rattle.vm_state.specs.Sensed.{ClearAt, Does, Faults, LacksMemory, Sensed, StopsThere, troubled}
use Rattle.vm_state.specs.Sensitive.{sensed}
use Rattle.vm_state.specs.State.{Guest}
use Rattle.vm_state.specs.Step.{counted, instruction_of, with_effect}
use Rattle.vm_state.specs.Translation.{is_clear, space_of}
use Rattle.vm_state.specs.declared.exception.Exc.{Exc}
use Rattle.vm_state.specs.declared.exception.Exc.TheVariants as excs

-- the vector that an initiation takes: its own, or 08 in its place; none where the guest stops
abbrev pub vector_taken : Exc → Initiation → Note
vector_taken e (Taken h written) = Vector (vector_offset e)
vector_taken e (KernelStackBad h written) = Vector 0x08
vector_taken e (StopsGuest stop) = Nothing

-- the vector that is taken, by the code's answer
abbrev pub noted : Initiated → (offset : ℕ) → Note
noted outcomes.Taken offset = Vector offset
noted outcomes.KernelStackBad offset = Vector 0x08
noted (outcomes.Stopped code) offset = Nothing

abbrev pub taken_by : Guest → Exc → Note
taken_by g e = vector_taken e (initiate g e)

-- the page of an address whose modify bit is set; a guest with modify faults takes a vector
abbrev pub note_of_clear : Guest → ℕ → Note
note_of_clear g va = if g.state.modify_faults then taken_by g (excs.ModifyFault va) else Page (va / 512 * 512)

-- A sensitive instruction. A change of mode that completes has no note: the instruction names its vector.
abbrev pub note_of_sensed : Guest → Sensed → Note
note_of_sensed g (Does h shown written) = Nothing
note_of_sensed g (Faults e) = taken_by g e
note_of_sensed g (ClearAt va) = note_of_clear g va
note_of_sensed g (StopsThere stop) = Nothing
note_of_sensed g LacksMemory = Nothing

-- the arithmetic trap after a plain instruction
abbrev pub note_of_trap : Guest → Option ℕ → Note
note_of_trap h None = Nothing
note_of_trap h (Some type) = taken_by h (excs.Arithmetic type)

abbrev pub note_of_probed : Guest → Probed → Note
note_of_probed g (Answers is_accessible is_plain) = Nothing
note_of_probed g (NotValid f) = taken_by g (excs.Memory f)
note_of_probed g probes.PastMemory = Nothing

abbrev pub note_of_act : Guest → Act → Note
note_of_act g (whole.Plain e) = note_of_trap (with_effect g e) e.trap
note_of_act g (Traps t) = note_of_sensed g (sensed g t t.op)
note_of_act g (Probes i o) = note_of_probed g (probe g i (long_of o 0) (long_of o 1) (long_of o 2))

abbrev pub note_by_try : Guest → Tried Meant → Note
note_by_try g (Completes meant) = note_of_act g meant.act
note_by_try g (Clear va) = note_of_clear g va
note_by_try g (tries.Stopped trouble) = note_of_sensed g (troubled g trouble)

-- the instruction at PC
unfoldable pub note_of_instruction : Guest → Note
note_of_instruction g = note_by_try g (tried (space_of g) (is_clear g) (instruction_of g.state))

abbrev pub note_unless_waiting : Guest → Bool → Note
note_unless_waiting g true = Nothing
note_unless_waiting g false = note_of_instruction g

abbrev pub note_by_interrupt : Guest → Option Source → Note
note_by_interrupt g (Some source) = taken_by g (interrupt_of source)
note_by_interrupt g None = note_unless_waiting g g.state.waiting

abbrev pub note_of_counted : Guest → Note
note_of_counted g = note_by_interrupt g (due g.state)

abbrev pub note_by_halt : Guest → Option ℕ → Note
note_by_halt g (Some code) = Nothing
note_by_halt g None = note_of_counted (record g { state = counted g.state })

-- the next step
unfoldable pub note_of : Guest → Note
note_of g = note_by_halt g g.state.halt
