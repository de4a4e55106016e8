-- What is noted of an instruction that trapped, by the outcome of its emulation.
use Rattle.std.proofs.Common.{◌≡◌, ℕ, ◌*◌, ◌/◌, Bool, true, false, refl, ap, ◌∙◌, sym, subst, length}
use Rattle.std.specs.Prelude.{if◌then◌else◌}
use Rattle.vax_arch.specs.declared.mode.Intent.{Intent}
use Rattle.vax_arch.specs.declared.mode.Intent.TheVariants as intents
use Rattle.vax_hw.specs.Machine.{Machine}
use Rattle.vax_table.specs.Whole.{Act, Plain, Probes, Traps, probe_of, trap_of}
use Rattle.vax_table.specs.declared.act.Sens.{Sens}
use Rattle.vax_table.specs.declared.act.Sens.TheVariants.{Halt, Prober, Probew}
use Rattle.vax_table.specs.declared.act.Trapped.{Trapped}
use Rattle.vax_table.specs.declared.evaluation.Operands.{Operands}
use Rattle.vm_emulate.specs.Emulated.{Emulates, IsEmulated, IsHalted, IsProbed, IsSensed, halted_guest, probed_trap}
use Rattle.vm_emulate.specs.declared.emulated.Emulated.{Emulated}
use Rattle.vm_emulate.specs.declared.emulated.Emulated.TheVariants as outcomes
use Rattle.vm_exception.specs.Noted.{note_by_try, note_of_act, note_of_probed, note_of_sensed, taken_by}
use Rattle.vm_exception.specs.declared.note.Note.{Note}
use Rattle.vm_exception.specs.declared.note.Note.TheVariants.{Nothing, Page}
use Rattle.vm_exception.specs.Attempted.{Stays}
use Rattle.vm_shadow.specs.Shadowed.{Shadowed}
use Rattle.vm_simulation_laws.specs.Laws.{IsTrap, IsTrapped}
use Rattle.vm_state.specs.Partition.{guest_of}
use Rattle.vm_state.specs.Probe.{Answers, NotValid, Probed}
use Rattle.vm_state.specs.Probe as probes
use Rattle.vm_state.specs.Sensed.{ClearAt, Does, Faults, LacksMemory, Sensed, StopsThere}
use Rattle.vm_state.specs.Sensitive.{sensed}
use Rattle.vm_state.specs.State.{Guest}
use Rattle.vm_state.specs.declared.exception.Exc.{Exc}
use Rattle.vm_state.specs.declared.exception.Exc.TheVariants as excs
use Rattle.vm_state.specs.declared.guest_state.GuestState.{GuestState}
use Rattle.vm_stepping.specs.Noted.{note_here}
use Rattle.vm_stepping.proofs.SensingScripts.{ActIsProper, IsNoProbe, proper_act}

-- what is to be noted, by the outcome of the emulation
abbrev pub Told : Emulated → Guest → Note → Type 0
Told outcomes.Done own told = told ≡ Nothing
Told (outcomes.SetModify at) own told = told ≡ Page (at / 512 * 512)
Told (outcomes.Fault e) own told = told ≡ taken_by own e
Told (outcomes.Stopped code) own told = told ≡ Nothing
Told outcomes.PastMemory own told = told ≡ Nothing
Told outcomes.Filled own told = Unit {0}

module _ (m : Machine) (s : Shadowed) (g : GuestState) (m' : Machine) (s' : Shadowed) (g' : GuestState) where
  abbrev own : Guest
  own = guest_of m.memory g

  by_modify : (va : ℕ) (b : Bool) → g.modify_faults ≡ b → note_of_sensed own (ClearAt va) ≡ (if b then taken_by own (excs.ModifyFault va) else Page (va / 512 * 512))
  by_modify va b e = ap (λ x. if x then taken_by own (excs.ModifyFault va) else Page (va / 512 * 512)) e

  -- a sensitive instruction but HALT
  told_sensed : (result : Emulated) (x : Sensed) → IsSensed x result m s g m' s' g' → Told result own (note_of_sensed own x)
  told_sensed outcomes.Done (Does h shown frames) k = refl
  told_sensed (outcomes.Fault f) (Faults e) k = ap (taken_by own) (sym k.0)
  told_sensed (outcomes.Fault f) (ClearAt va) k = by_modify va true k.0 ∙ ap (taken_by own) (sym k.1)
  told_sensed (outcomes.SetModify at) (ClearAt va) k = by_modify va false k.1 ∙ ap (λ x. Page (x / 512 * 512)) (sym k.0)
  told_sensed (outcomes.Stopped code) (StopsThere stop) k = refl
  told_sensed outcomes.PastMemory LacksMemory k = refl
  told_sensed outcomes.Filled x k = tt
  told_sensed (outcomes.SetModify at) (Does h shown frames) k = absurd k
  told_sensed (outcomes.Fault f) (Does h shown frames) k = absurd k
  told_sensed (outcomes.Stopped code) (Does h shown frames) k = absurd k
  told_sensed outcomes.PastMemory (Does h shown frames) k = absurd k
  told_sensed outcomes.Done (Faults e) k = absurd k
  told_sensed (outcomes.SetModify at) (Faults e) k = absurd k
  told_sensed (outcomes.Stopped code) (Faults e) k = absurd k
  told_sensed outcomes.PastMemory (Faults e) k = absurd k
  told_sensed outcomes.Done (ClearAt va) k = absurd k
  told_sensed (outcomes.Stopped code) (ClearAt va) k = absurd k
  told_sensed outcomes.PastMemory (ClearAt va) k = absurd k
  told_sensed outcomes.Done (StopsThere stop) k = absurd k
  told_sensed (outcomes.SetModify at) (StopsThere stop) k = absurd k
  told_sensed (outcomes.Fault f) (StopsThere stop) k = absurd k
  told_sensed outcomes.PastMemory (StopsThere stop) k = absurd k
  told_sensed outcomes.Done LacksMemory k = absurd k
  told_sensed (outcomes.SetModify at) LacksMemory k = absurd k
  told_sensed (outcomes.Fault f) LacksMemory k = absurd k
  told_sensed (outcomes.Stopped code) LacksMemory k = absurd k

  told_halted : (t : Trapped) (result : Emulated) → IsHalted (halted_guest own t) result s m' s' g' → Told result own (note_of_sensed own (sensed own t Halt))
  unfolding sensed
  told_halted t (outcomes.Stopped code) k = refl
  told_halted t outcomes.Filled k = tt
  told_halted t outcomes.Done k = absurd k
  told_halted t (outcomes.SetModify at) k = absurd k
  told_halted t (outcomes.Fault f) k = absurd k
  told_halted t outcomes.PastMemory k = absurd k

  told_trap : (t : Trapped) (result : Emulated) (op : Sens) → IsNoProbe op → IsEmulated op t result m s g m' s' g' → Told result own (note_of_sensed own (sensed own t op))
  told_trap t result Halt n k = told_halted t result k
  told_trap t result Prober n k = absurd n
  told_trap t result Probew n k = absurd n
  told_trap t result op n k = told_sensed result (sensed own t op) k

  -- PROBE
  told_probed : (t : Trapped) (result : Emulated) (x : Probed) → IsProbed x t result m s g m' s' g' → Told result own (note_of_probed own x)
  told_probed t outcomes.Filled x k = tt
  told_probed t outcomes.Done (Answers a false) k = refl
  told_probed t (outcomes.Fault f) (NotValid fault) k = ap (taken_by own) (sym k.0)
  told_probed t outcomes.PastMemory probes.PastMemory k = refl
  told_probed t outcomes.Done (Answers a true) k = absurd k
  told_probed t (outcomes.SetModify at) (Answers a true) k = absurd k
  told_probed t (outcomes.Fault f) (Answers a true) k = absurd k
  told_probed t (outcomes.Stopped code) (Answers a true) k = absurd k
  told_probed t outcomes.PastMemory (Answers a true) k = absurd k
  told_probed t (outcomes.SetModify at) (Answers a false) k = absurd k
  told_probed t (outcomes.Fault f) (Answers a false) k = absurd k
  told_probed t (outcomes.Stopped code) (Answers a false) k = absurd k
  told_probed t outcomes.PastMemory (Answers a false) k = absurd k
  told_probed t outcomes.Done (NotValid fault) k = absurd k
  told_probed t (outcomes.SetModify at) (NotValid fault) k = absurd k
  told_probed t (outcomes.Stopped code) (NotValid fault) k = absurd k
  told_probed t outcomes.PastMemory (NotValid fault) k = absurd k
  told_probed t outcomes.Done probes.PastMemory k = absurd k
  told_probed t (outcomes.SetModify at) probes.PastMemory k = absurd k
  told_probed t (outcomes.Fault f) probes.PastMemory k = absurd k
  told_probed t (outcomes.Stopped code) probes.PastMemory k = absurd k

  told_by_probe : (result : Emulated) (i : Intent) (o : Operands) → IsEmulated (probe_of i) (trap_of (probe_of i) o) result m s g m' s' g' → Told result own (note_of_act own (Probes i o))
  told_by_probe result intents.Read o k = told_probed (trap_of Prober o) result (probed_trap own intents.Read (trap_of Prober o)) k
  told_by_probe result intents.Write o k = told_probed (trap_of Probew o) result (probed_trap own intents.Write (trap_of Probew o)) k

  told_act : (t : Trapped) (result : Emulated) (act : Act) → IsTrap t act → ActIsProper (length g.r) act → IsEmulated t.op t result m s g m' s' g' → Told result own (note_of_act own act)
  told_act t result (Plain e) is p k = absurd is
  told_act t result (Traps x) is p k =
      subst (λ (y : Trapped). Told result own (note_of_act own (Traps y))) (sym is)
      (told_trap t result t.op (subst (λ (y : Trapped). IsNoProbe y.op) is p) k)
  told_act t result (Probes i o) is p k = told_by_probe result i o (subst (λ (y : Trapped). IsEmulated y.op y result m s g m' s' g') (sym is) k)

  told_by : (t : Trapped) (result : Emulated) → IsTrapped t m.memory s g → IsEmulated t.op t result m s g m' s' g' → Told result own (note_here own)
  told_by t result trapped k =
      subst (λ y. Told result own (note_by_try own y)) (sym trapped.try)
      (told_act t result trapped.act trapped.is (proper_act own trapped.opcode trapped.act trapped.try) k)

  module _ (t : Trapped) (result : Emulated) (trapped : IsTrapped t m.memory s g) (k : Emulates t m s g result m' s' g') where
    told_when : (r : Emulated) → result ≡ r → Told r own (note_here own)
    told_when r e = subst (λ y. Told y own (note_here own)) e (told_by t result trapped k.is)

    pub notes_done : result ≡ outcomes.Done → Nothing ≡ note_here own
    notes_done e = sym (told_when outcomes.Done e)

    pub notes_modify : (at : ℕ) (note : Note) → result ≡ outcomes.SetModify at → note ≡ Page (at / 512 * 512) → note ≡ note_here own
    notes_modify at note e is = is ∙ sym (told_when (outcomes.SetModify at) e)

    pub notes_stopped : (code : ℕ) → result ≡ outcomes.Stopped code → Nothing ≡ note_here own
    notes_stopped code e = sym (told_when (outcomes.Stopped code) e)

    pub notes_past : result ≡ outcomes.PastMemory → Nothing ≡ note_here own
    notes_past e = sym (told_when outcomes.PastMemory e)

    pub notes_fault : (e : Exc) (note : Note) → result ≡ outcomes.Fault e → Stays m s g m' s' g' → note ≡ taken_by (guest_of m'.memory g') e → note ≡ note_here own
    notes_fault e note is same told =
        told ∙ (λ i. taken_by (guest_of (same.machine i).memory (same.guest i)) e) ∙ sym (told_when (outcomes.Fault e) is)
