-- What the kernel's work notes of a guest's next step.
use Rattle.std.specs.Prelude.{◌≡◌, Bool, true, false, if◌then◌else◌}
use Rattle.vax_hw.specs.Machine.{Machine}
use Rattle.vm_exception.specs.Noted.{note_by_try, note_of, note_of_instruction}
use Rattle.vm_exception.specs.declared.note.Note.{Note}
use Rattle.vm_simulation_laws.specs.Loaded.{guest_try}
use Rattle.vm_state.specs.Partition.{guest_of}
use Rattle.vm_state.specs.State.{Guest}
use Rattle.vm_state.specs.declared.guest_state.GuestState.{GuestState}
use Rattle.vm_stepping.specs.declared.turns.Left.{Left}

-- where a step was made, this is noted of it
abbrev pub NotesMet : Bool → Note → Note → Type 0
NotesMet true told note = note ≡ told
NotesMet false told note = Unit {0}

-- of a guest's instruction, by the guest's try of it
abbrev pub note_here : Guest → Note
note_here h = note_by_try h (guest_try h)

-- of a guest whose next step may be counted already
abbrev pub note_of_left : Left → Guest → Note
note_of_left left g = if left.counted then note_of_instruction g else note_of g

-- One step was left: it was made, and this is noted of it; or it is still left, and the same is to be noted of it.
pub record NotesOne (left left' : Left) (m : Machine) (g : GuestState) (m' : Machine) (g' : GuestState) (note : Note) : Type 0 where
  pub made : left.steps ≡ 1 → left'.steps ≡ 0 → note ≡ note_of_left left (guest_of m.memory g)
  pub stays : left.steps ≡ 1 → left'.steps ≡ 1 → note_of_left left' (guest_of m'.memory g') ≡ note_of_left left (guest_of m.memory g)
