-- The kernel's work by its kinds.
use Rattle.std.proofs.Common.{◌≡◌, ℕ, ◌+◌, ◌/◌, ◌≤◌, ◌⊎◌, inl, inr, Bool, true, false, ◌||◌, [], ◌∷◌, Option, None, Ok, refl, ap, ◌∙◌, sym, subst}
use Rattle.vax_arch.specs.declared.walk.Lookup.TheVariants.{Beyond, Direct, Fails, Found}
use Rattle.vax_hw.specs.Machine.{Machine}
use Rattle.vax_hw.specs.Real.{Retired, machine_step}
use Rattle.vm_simulation_laws.specs.Works.{MarksAreDropped, OneFrameIsDropped, RetiredStepsAreCounted, StepIsCounted, SwitchesRetell}
use Rattle.vm_simulation_laws.specs.Moves.{Drops}
use Rattle.vm_simulation_laws.specs.Present.{HasPresent, to_miss}
use Rattle.vm_simulation_laws.proofs.Fitting.{steps_keep, touches_counted}
use Rattle.vm_simulation_laws.proofs.Found.{found_entries}
use Rattle.vm_simulation_laws.proofs.Own.{moves_alone, none_dropped}
use Rattle.vm_shadow.specs.Calls.{unless_dropped}
use Rattle.vm_shadow.specs.Shadowed.{Shadowed, is_pending, is_read_from, read_at}
use Rattle.vm_shadow.specs.declared.source.Source.{Source}
use Rattle.vm_simulation_laws.specs.Laws.{IsRetired, frames_claimed}
use Rattle.vm_simulation_laws.specs.Loaded.{RunsGuest, as_run}
use Rattle.vm_simulation_laws.proofs.Retiring.{retires}
use Rattle.vm_state.specs.Partition.{guest_of}
use Rattle.vm_state.specs.State.{Guest, tables_of}
use Rattle.vm_state.specs.Step as steps
use Rattle.vm_state.specs.Step.{Stepped, executed, instruction_of, touched_by, trapped_in}
use Rattle.vm_state.specs.Touches.{Touching, touching_step}
use Rattle.vm_state.specs.declared.guest_state.GuestState.{GuestState}
use Rattle.vm_simulation_laws.specs.Touched.{touches_now}
use Rattle.vm_simulation_laws.proofs.Touching.{retired_filled}

one_each : (frame : ℕ) (x y : Option Source) (b : Bool) → is_read_from frame x ≡ b → y ≡ unless_dropped b x → (y ≡ x) ⊎ ((y ≡ None) × (is_pending (frame ∷ []) x ≡ true))
one_each frame x y true e is = inr (is, ap (λ (c : Bool). c || false) e)
one_each frame x y false e is = inl is

pub one_dropped : OneFrameIsDropped
one_dropped frame s s' d = record {
  each = λ n. one_each frame (read_at s n) (read_at s' n) (is_read_from frame (read_at s n)) refl (d.each n);
  told = ap (λ z. z.told) d.rest;
  held = ap (λ z. z.held) d.rest;
}

pub marks_dropped : MarksAreDropped
marks_dropped (Found place table) s s' d = one_dropped (place / 512) s s' d
marks_dropped (Direct frame) s s' d = subst (λ z. Drops [] s z) (sym d) (none_dropped [] s)
marks_dropped (Fails not_valid parameter) s s' d = subst (λ z. Drops [] s z) (sym d) (none_dropped [] s)
marks_dropped Beyond s s' d = subst (λ z. Drops [] s z) (sym d) (none_dropped [] s)

pub switches_retell : SwitchesRetell
switches_retell g m m' s s' w = record { takes = w.takes; each = w.each }

-- after an instruction that retired
module _ (m : Machine) (s : Shadowed) (g : GuestState) (x : Retired) (k : RunsGuest [] m s g) (e : machine_step m ≡ Ok x) (none : x.trap ≡ None) where
  abbrev whole : Guest
  whole = guest_of m.memory g

  done : IsRetired [] m s g x
  done = retires [] m s g x k e

  abbrev plain : Stepped
  plain = steps.stepped (guest_of x.machine.memory (as_run x.machine.world g)) [] (steps.Plain done.term) (frames_claimed (guest_of m.memory g))

  step_is : executed whole ≡ record plain { touched = touched_by whole (instruction_of whole.state) }
  unfolding executed
  step_is = ap (λ (y : Stepped). record y { touched = touched_by whole (instruction_of whole.state) }) (done.plain ∙ ap (trapped_in (steps.Plain done.term) (frames_claimed (guest_of m.memory g)) (guest_of x.machine.memory (as_run x.machine.world g))) none)

  abbrev IsCounted : Touching → Stepped → Type 0
  IsCounted t y = HasPresent s (touching_step whole y t).present × (t.count + to_miss s (touches_now whole) ≤ (touching_step whole y t).count)

  by_plain : (t : Touching) → HasPresent s t.present → IsCounted t (record plain { touched = touched_by whole (instruction_of whole.state) })
  by_plain t all = (
    steps_keep m.memory s g (record plain { touched = touched_by whole (instruction_of whole.state) }) t s k.keeps k.serves
        (λ page j. found_entries [] m.memory s g k.keeps k.serves (retired_filled [] m s g x k e).found page j)
        (moves_alone (frames_claimed (guest_of m.memory g)) m.memory s s (tables_of g) k.keeps.fits k.serves.told (none_dropped (frames_claimed (guest_of m.memory g)) s)) all,
    touches_counted m.memory s (touches_now whole) t k.keeps.fits all,
  )

  counted : (t : Touching) → HasPresent s t.present → StepIsCounted s whole t
  counted t all = let is : IsCounted t (executed whole) = subst (IsCounted t) (sym step_is) (by_plain t all) in record { has = is.0; count = is.1 }

pub retired_counted : RetiredStepsAreCounted
retired_counted m s g x t k e none all = counted m s g x k e none t all
