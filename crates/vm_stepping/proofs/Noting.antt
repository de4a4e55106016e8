-- What is noted of an instruction before which the machine stopped.
use Rattle.std.proofs.Common.{◌≡◌, ℕ, Bool, true, false, refl, ap, ◌∙◌, sym, subst}
use Rattle.vax_arch.specs.Fields.{current_of}
use Rattle.vax_arch.specs.declared.mode.Intent.{Intent}
use Rattle.vax_hw.specs.Machine.{Machine}
use Rattle.vax_table.specs.Interaction as interaction
use Rattle.vax_table.specs.Interaction.{Test, cause_of}
use Rattle.vax_table.specs.Tries.{Clear, Stopped}
use Rattle.vax_table.specs.declared.act.Refusal.{Refusal}
use Rattle.vax_hw.specs.declared.world.Exit.{Exit}
use Rattle.vax_hw.specs.declared.world.Exit.TheVariants.{Arithmetic, Budget}
use Rattle.vm_exception.specs.Standing.{standing}
use Rattle.vm_stepping.specs.Guarded.{IsGuarded}
use Rattle.vm_stepping.proofs.Completing.{guest_same}
use Rattle.vm_exception.specs.Noted.{note_by_try, note_of_clear, note_of_instruction, note_of_sensed, taken_by}
use Rattle.vm_exception.specs.declared.note.Note.{Note}
use Rattle.vm_exception.specs.declared.note.Note.TheVariants.{Nothing}
use Rattle.vm_shadow.specs.Laws.{guest_place}
use Rattle.vm_shadow.specs.Shadowed.{Shadowed}
use Rattle.vm_simulation_laws.specs.Laws.{IsMissed}
use Rattle.vm_simulation_laws.specs.Loaded.{guest_try}
use Rattle.vm_state.specs.Partition.{guest_of}
use Rattle.vm_state.specs.Sensed.{fault_of, refused_as}
use Rattle.vm_state.specs.State.{Guest}
use Rattle.vm_state.specs.Translation.{walk_of}
use Rattle.vm_state.specs.declared.exception.Exc.{Exc}
use Rattle.vm_state.specs.declared.exception.Exc.TheVariants as excs
use Rattle.vm_state.specs.declared.guest_state.GuestState.{GuestState}
use Rattle.vm_state.specs.declared.walk.MemFault.{MemFault}
use Rattle.vm_state.specs.declared.walk.Walk.{Walk}
use Rattle.vm_state.specs.declared.walk.Walk.TheVariants as walks
use Rattle.vm_stepping.specs.Noted.{NotesMet, note_here}
use Rattle.vm_stepping.proofs.Meeting.{stays_by}

pub note_is : (h : Guest) → note_of_instruction h ≡ note_here h
unfolding note_of_instruction
note_is h = refl

-- the same of the instruction
pub notes_instruction : (b : Bool) (h : Guest) (note : Note) → NotesMet b (note_here h) note → NotesMet b (note_of_instruction h) note
notes_instruction true h note k = k ∙ sym (note_is h)
notes_instruction false h note k = tt

-- a byte that the machine has no place for
module _ (m : Machine) (s : Shadowed) (g : GuestState) (va : ℕ) (i : Intent) (k : IsMissed i va m.memory s g) where
  abbrev here : Guest
  here = guest_of m.memory g

  abbrev walked : Walk
  walked = walk_of here va (current_of g.psl.0) i

  pub missing_fault : (f : MemFault) (note : Note) → walks.Fault f ≡ walked → note ≡ taken_by here (excs.Memory f) → note ≡ note_here here
  missing_fault f note e is =
      is ∙ ap (λ w. note_of_sensed here (fault_of w)) e ∙ sym (ap (note_by_try here) (k.fault (cause_of f.not_valid) (ap guest_place (sym e))))

  pub missing_stop : (note : Note) → walks.Beyond ≡ walked → note ≡ Nothing → note ≡ note_here here
  missing_stop note e is =
      is ∙ ap (λ w. note_of_sensed here (fault_of w)) e ∙ sym (ap (note_by_try here) (k.fault interaction.Past (ap guest_place (sym e))))

-- a clear modify bit
pub notes_clear : (h : Guest) (va : ℕ) (note : Note) → guest_try h ≡ Clear va → note ≡ note_of_clear h va → note ≡ note_here h
notes_clear h va note e is = is ∙ sym (ap (note_by_try h) e)

-- a refused instruction
pub notes_refused : (h : Guest) (refusal : Refusal) (x : Exc) (note : Note) → guest_try h ≡ Stopped (Test refusal) → x ≡ refused_as refusal → note ≡ taken_by h x → note ≡ note_here h
notes_refused h refusal x note e same is = is ∙ ap (taken_by h) same ∙ sym (ap (note_by_try h) e)

-- a guarded run that didn't retire leaves the guest as it is
pub guarded_notes : (m : Machine) (s : Shadowed) (g : GuestState) (terms : ℕ) (m1 : Machine) (s1 : Shadowed) (g1 : GuestState) (e : Exit) (b : Bool) (note : Note) → (e ≡ Budget → ⊥) → ((kind : ℕ) → e ≡ Arithmetic kind → ⊥) → IsGuarded e terms (standing m s g) (standing m1 s1 g1) →
    NotesMet b (note_here (guest_of m1.memory g1)) note → NotesMet b (note_of_instruction (guest_of m.memory g)) note
guarded_notes m s g terms m1 s1 g1 e b note not_budget not_arithmetic k met =
    let stays = stays_by m s g terms m1 s1 g1 e not_budget not_arithmetic k in
    notes_instruction b (guest_of m.memory g) note (subst (λ h. NotesMet b (note_here h) note) (ap (guest_of m1.memory) stays.guest ∙ guest_same m m1 g stays.own) met)
