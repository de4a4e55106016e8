-- What is noted of a step, from its beginning on.
use Rattle.std.proofs.Common.{◌≡◌, ℕ, ◌-◌, ◌≤◌, Bool, true, false, Option, Some, None, refl, ap, ◌∙◌, sym, subst, arith}
use Rattle.std.specs.Prelude.{is_some}
use Rattle.vax_hw.specs.Machine.{Machine}
use Rattle.vm_exception.specs.Noted.{note_by_halt, note_by_interrupt, note_of, note_of_instruction, note_unless_waiting, taken_by}
use Rattle.vm_exception.specs.declared.note.Note.{Note}
use Rattle.vm_exception.specs.declared.note.Note.TheVariants.{Nothing}
use Rattle.vm_shadow.specs.Shadowed.{Shadowed}
use Rattle.vm_shadow.specs.StandsFor.{StandsFor}
use Rattle.vm_state.specs.Interrupts.{Source, due, interrupt_of}
use Rattle.vm_state.specs.Partition.{guest_of}
use Rattle.vm_state.specs.State.{Guest, HasPlace, State, state_of}
use Rattle.vm_state.specs.Step.{counted}
use Rattle.vm_state.specs.declared.guest_state.GuestState.{GuestState}
use Rattle.vm_stepping.specs.Advances.{Idles}
use Rattle.vm_stepping.specs.Noted.{NotesOne}
use Rattle.vm_stepping.specs.declared.counts.Counts.{Counts}
use Rattle.vm_stepping.specs.declared.turns.Left.{Left}
use Rattle.vm_stepping.proofs.Beginning.{counted_is, now}
use Rattle.vm_stepping.proofs.Running.{counted_left, not_counted, plain_left}

-- nothing is noted of a guest that has stopped
tells_nothing : (h : Guest) (o : Option ℕ) → is_some o ≡ true → note_by_halt h o ≡ Nothing
tells_nothing h (Some code) e = refl
tells_nothing h None e = absurd (not_counted e)

stands_silent : (h : Guest) → is_some h.state.halt ≡ true → note_of h ≡ Nothing
unfolding note_of
stands_silent h e = tells_nothing h h.state.halt e

pub notes_halted : (n : ℕ) (left : Left) (m : Machine) (g : GuestState) → is_some g.halt ≡ true → left ≡ plain_left 0 → NotesOne (plain_left n) left m g m g Nothing
notes_halted n left m g halted e = subst (λ l. NotesOne (plain_left n) l m g m g Nothing) (sym e) (record {
  made = λ one none. sym (stands_silent (guest_of m.memory g) halted);
  stays = λ one still. absurd (omega (arith, still));
})

-- The step is counted.
module _ (m : Machine) (s : Shadowed) (g : GuestState) (g1 : GuestState) (stands : StandsFor m.memory s g) (state : state_of g1 ≡ counted (state_of g)) (place : HasPlace g.pages g.base g.start g1) (runs : g.halt ≡ None) (n : ℕ) where
  abbrev here : Guest
  here = now m s g g1 stands state place runs

  abbrev here_is : guest_of m.memory g1 ≡ here
  here_is = counted_is m s g g1 stands state place runs

  note_is : (o : Option Source) → due (state_of g1) ≡ o → note_of (guest_of m.memory g) ≡ note_by_interrupt here o
  unfolding note_of
  note_is o e = ap (note_by_halt (guest_of m.memory g)) runs ∙ ap (note_by_interrupt here) (ap due (sym state) ∙ e)

  unless : (b : Bool) → due (state_of g1) ≡ None → g1.waiting ≡ b → note_of (guest_of m.memory g) ≡ note_unless_waiting here b
  unless b none waits = note_is None none ∙ ap (note_unless_waiting here) (sym (ap (λ (y : State). y.waiting) state) ∙ waits)

  pub notes_taken : (source : Source) (m2 : Machine) (g2 : GuestState) (left : Left) (note : Note) → due (state_of g1) ≡ Some source → left ≡ plain_left (n - 1) → note ≡ taken_by (guest_of m.memory g1) (interrupt_of source) → NotesOne (plain_left n) left m g m2 g2 note
  notes_taken source m2 g2 left note pending e is = subst (λ l. NotesOne (plain_left n) l m g m2 g2 note) (sym e) (record {
    made = λ one none. is ∙ ap (λ h. taken_by h (interrupt_of source)) here_is ∙ sym (note_is (Some source) pending);
    stays = λ one still. absurd (omega (arith, one, still));
  })

  pub notes_idle : (c c2 : Counts) (g2 : GuestState) (left : Left) → due (state_of g1) ≡ None → g1.waiting ≡ true → Idles n left g1 c g2 c2 → NotesOne (plain_left n) left m g m g2 Nothing
  notes_idle c c2 g2 left none waits x = subst (λ l. NotesOne (plain_left n) l m g m g2 Nothing) (sym x.left_is) (record {
    made = λ one gone. sym (unless true none waits);
    stays = λ one still. absurd (omega (arith, one, still));
  })

  pub notes_begun : (note : Note) → due (state_of g1) ≡ None → g1.waiting ≡ false → NotesOne (plain_left n) (counted_left n) m g m g1 note
  notes_begun note none waits = record {
    made = λ one gone. absurd (omega (arith, one, gone));
    stays = λ one still. ap note_of_instruction here_is ∙ sym (unless false none waits);
  }

-- the steps that are left, one part after another
pub notes_nothing : (n : ℕ) (left : Left) (m : Machine) (g : GuestState) (note : Note) → left ≡ plain_left n → NotesOne (plain_left n) left m g m g note
notes_nothing n left m g note e = subst (λ l. NotesOne (plain_left n) l m g m g note) (sym e) (record {
  made = λ one none. absurd (omega (arith, one, none));
  stays = λ one still. refl;
})

pub notes_then : (l l1 l2 : Left) (m : Machine) (g : GuestState) (m1 : Machine) (g1 : GuestState) (m2 : Machine) (g2 : GuestState) (note1 note2 : Note) → 1 ≤ l1.steps → l1.steps ≤ l.steps → NotesOne l l1 m g m1 g1 note1 → NotesOne l1 l2 m1 g1 m2 g2 note2 → NotesOne l l2 m g m2 g2 note2
notes_then l l1 l2 m g m1 g1 m2 g2 note1 note2 some few x y = record {
  made = λ one none. y.made (omega (arith, one, some, few)) none ∙ x.stays one (omega (arith, one, some, few));
  stays = λ one still. y.stays (omega (arith, one, some, few)) still ∙ x.stays one (omega (arith, one, some, few));
}
