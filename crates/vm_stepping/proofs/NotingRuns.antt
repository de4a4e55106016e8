-- What is noted of an instruction that the machine ran.
use Rattle.std.proofs.Common.{◌≡◌, ℕ, ◌-◌, ◌≤◌, Bool, true, false, List, Option, Some, None, ap, ◌∙◌, sym, subst, arith}
use Rattle.vax_hw.specs.Machine.{Machine}
use Rattle.vax_hw.specs.declared.world.Exit.{Exit}
use Rattle.vax_hw.specs.declared.world.Exit.TheVariants.{Arithmetic, Budget, Denied, Emulate, Modify, NotValid, Refused}
use Rattle.vax_table.specs.Whole.{Act, Plain, Probes, Traps}
use Rattle.vm_exception.specs.Standing.{standing}
use Rattle.vm_stepping.specs.Guarded.{IsGuarded, StepsGuarded}
use Rattle.vm_stepping.specs.Ran.{IsAlone, IsRun}
use Rattle.vm_stepping.specs.declared.bursts.Ran.{Ran}
use Rattle.vm_stepping.proofs.Completing.{guest_same}
use Rattle.vm_exception.specs.Noted.{note_by_try, note_of_act, note_of_instruction, note_of_probed, note_of_trap, taken_by}
use Rattle.vm_exception.specs.declared.note.Note.{Note}
use Rattle.vm_exception.specs.declared.note.Note.TheVariants.{Nothing}
use Rattle.vm_shadow.specs.Shadowed.{Shadowed}
use Rattle.vm_simulation_laws.specs.Bursts.{EndsBurst}
use Rattle.vm_simulation_laws.specs.Laws.{Leaves, LeavesByAct}
use Rattle.vm_state.specs.Partition.{guest_of}
use Rattle.vm_state.specs.State.{Guest}
use Rattle.vm_state.specs.declared.exception.Exc.TheVariants as excs
use Rattle.vm_state.specs.declared.guest_state.GuestState.{GuestState}
use Rattle.vm_stepping.specs.Advances.{StepsOrRefills}
use Rattle.vm_stepping.specs.Made.{Refills, underway}
use Rattle.vm_stepping.specs.Noted.{NotesMet, NotesOne}
use Rattle.vm_stepping.specs.declared.counts.Counts.{Counts}
use Rattle.vm_stepping.specs.declared.turns.Left.{Left}
use Rattle.vm_stepping.proofs.Noting.{note_is}
use Rattle.vm_stepping.proofs.Running.{IsBefore, before_ends, counted_left, is_before, plain_left}

-- of a plain instruction its trap alone is noted
by_act : (h after : Guest) (trap : Option ℕ) (act : Act) → LeavesByAct act h after trap → note_of_act h act ≡ note_of_trap after trap
by_act h after trap (Plain e) k = λ i. note_of_trap (sym k.0 i) (sym k.1 i)
by_act h after trap (Traps t) k = absurd k
by_act h after trap (Probes i o) k = ap (note_of_probed h) k.1 ∙ ap (note_of_trap after) (sym k.3)

pub note_left : (h after : Guest) (trap : Option ℕ) → Leaves h after trap → note_of_instruction h ≡ note_of_trap after trap
note_left h after trap k = note_is h ∙ ap (note_by_try h) k.try ∙ by_act h after trap k.act k.later

-- a guarded instruction that retired
module _ (m : Machine) (s : Shadowed) (g : GuestState) (terms : ℕ) (m1 : Machine) (s1 : Shadowed) (g1 : GuestState) (e : Exit) (k : IsGuarded e terms (standing m s g) (standing m1 s1 g1)) where
  pub guarded_silent : e ≡ Budget → Nothing ≡ note_of_instruction (guest_of m.memory g)
  guarded_silent is =
      let steps : StepsGuarded m s g terms None m1 s1 g1 = subst (λ x. IsGuarded x terms (standing m s g) (standing m1 s1 g1)) is k in
      sym (note_left (guest_of m.memory g) (guest_of m1.memory g1) None steps.leaves)

  pub guarded_tells : (kind : ℕ) (note : Note) → e ≡ Arithmetic kind → note ≡ taken_by (guest_of m1.memory g1) (excs.Arithmetic kind) → note ≡ note_of_instruction (guest_of m.memory g)
  guarded_tells kind note is told =
      let steps : StepsGuarded m s g terms (Some kind) m1 s1 g1 = subst (λ x. IsGuarded x terms (standing m s g) (standing m1 s1 g1)) is k in
      told ∙ sym (note_left (guest_of m.memory g) (guest_of m1.memory g1) (Some kind) steps.leaves)

alone_before : (e : Exit) (h after : Guest) → IsBefore e → IsAlone e h after → after ≡ h
alone_before Budget h after b k = absurd b
alone_before (Arithmetic kind) h after b k = absurd b
alone_before (NotValid va write) h after b k = k
alone_before (Denied va write) h after b k = k
alone_before (Modify va) h after b k = k
alone_before (Emulate t) h after b k = k
alone_before (Refused r) h after b k = k

-- a run of at most n instructions, of all steps that are left
module _ (all n : ℕ) (m : Machine) (s : Shadowed) (g : GuestState) (ran : Ran) (m1 : Machine) (g1 : GuestState) (some : 1 ≤ n) (most : n ≤ all) (k : IsRun n m s g ran m1 g1) (left : Left) where
  abbrev own : Guest
  own = guest_of m.memory g

  abbrev later : Guest
  later = guest_of m1.memory g1

  single : all ≡ 1 → n ≡ 1
  single one = omega (arith, one, some, most)

  alone_as : (e : Exit) → ran.exit ≡ e → all ≡ 1 → IsAlone e own later
  alone_as e is one = subst (λ x. IsAlone x own later) is (k.alone (single one))

  ends_as : (e : Exit) → ran.exit ≡ e → EndsBurst e ran.done k.left m1.memory s g1
  ends_as e is = subst (λ x. EndsBurst x ran.done k.left m1.memory s g1) is k.ends

  pub notes_budget : (note : Note) → ran.exit ≡ Budget → left ≡ plain_left (all - ran.done) → note ≡ Nothing → NotesOne (counted_left all) left m g m1 g1 note
  notes_budget note is e silent =
      let done = (ends_as Budget is).1 in
      subst (λ l. NotesOne (counted_left all) l m g m1 g1 note) (sym e) (record {
        made = λ one none. silent ∙ sym (note_left own later None (alone_as Budget is one));
        stays = λ one still. absurd (omega (arith, one, still, done));
      })

  module _ (m2 : Machine) (s2 : Shadowed) (g2 : GuestState) (note : Note) where
    pub notes_trap : (kind : ℕ) → ran.exit ≡ Arithmetic kind → left ≡ plain_left (all - ran.done) → note ≡ taken_by later (excs.Arithmetic kind) → NotesOne (counted_left all) left m g m2 g2 note
    notes_trap kind is e told =
        let done = ends_as (Arithmetic kind) is in
        subst (λ l. NotesOne (counted_left all) l m g m2 g2 note) (sym e) (record {
          made = λ one none. told ∙ sym (note_left own later (Some kind) (alone_as (Arithmetic kind) is one));
          stays = λ one still. absurd (omega (arith, one, still, done));
        })

    module _ (not_budget : ran.exit ≡ Budget → ⊥) (not_arithmetic : (kind : ℕ) → ran.exit ≡ Arithmetic kind → ⊥) (b : Bool) (met : NotesMet b (note_of_instruction later) note) where
      before : IsBefore ran.exit
      before = is_before ran.exit not_budget not_arithmetic

      none_done : all ≡ 1 → ran.done ≡ 0
      none_done one =
          let rest = (before_ends ran.exit ran.done k.left m1.memory s g1 before k.ends).0 in
          let whole = k.budget in
          let few = single one in
          omega (arith, rest, whole, few)

      same : all ≡ 1 → later ≡ own
      same one = alone_before ran.exit own later before (k.alone (single one))

      pub notes_step : b ≡ true → left ≡ plain_left (all - ran.done - 1) → NotesOne (counted_left all) left m g m2 g2 note
      notes_step made e =
          let told : note ≡ note_of_instruction later = subst (λ x. NotesMet x (note_of_instruction later) note) made met in
          subst (λ l. NotesOne (counted_left all) l m g m2 g2 note) (sym e) (record {
            made = λ one none. told ∙ ap note_of_instruction (same one);
            stays = λ one still. absurd (omega (arith, one, still));
          })

      pub notes_fills : {Port : Type 0} (may : Port → List ℕ → Type 0) (port port' : Port) (c c2 : Counts) → b ≡ false → left ≡ counted_left (all - ran.done) → StepsOrRefills may b (underway port m1 s g1 c) (underway port' m2 s2 g2 c2) → NotesOne (counted_left all) left m g m2 g2 note
      notes_fills may port port' c c2 not_made e done =
          let fills : Refills m1 s g1 m2 s2 g2 = (subst (λ x. StepsOrRefills may x (underway port m1 s g1 c) (underway port' m2 s2 g2 c2)) not_made done).0 in
          let still_same : guest_of m2.memory g2 ≡ later = ap (guest_of m2.memory) fills.guest ∙ guest_same m1 m2 g1 fills.own in
          subst (λ l. NotesOne (counted_left all) l m g m2 g2 note) (sym e) (record {
            made = λ one none. let nothing = none_done one in absurd (omega (arith, one, none, nothing));
            stays = λ one still. ap note_of_instruction (still_same ∙ same one);
          })
