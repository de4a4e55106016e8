-- What is noted of an initiation is the definition's.
use Rattle.std.proofs.Common.{◌≡◌, ℕ, refl, ap, ◌∙◌}
use Rattle.vax_hw.specs.Machine.{Machine}
use Rattle.vm_exception.specs.Noted.{noted, taken_by, vector_taken}
use Rattle.vm_exception.specs.declared.note.Note.{Note}
use Rattle.vm_exception.specs.Standing.{standing}
use Rattle.vm_exception.specs.Initiated.{Initiates, IsInitiated}
use Rattle.vm_exception.specs.declared.initiated.Initiated.{Initiated}
use Rattle.vm_exception.specs.declared.initiated.Initiated.TheVariants as outcomes
use Rattle.vm_shadow.specs.Shadowed.{Shadowed}
use Rattle.vm_state.specs.Initiate.{Initiation, KernelStackBad, StopsGuest, Taken, initiate, vector_offset}
use Rattle.vm_state.specs.Partition.{guest_of}
use Rattle.vm_state.specs.declared.exception.Exc.{Exc}
use Rattle.vm_state.specs.declared.guest_state.GuestState.{GuestState}

module _ (m m' : Machine) (s s' : Shadowed) (g g' : GuestState) (e : Exc) where
  tells_by : (x : Initiation) (r : Initiated) → IsInitiated x r (standing m s g) (standing m' s' g') → noted r (vector_offset e) ≡ vector_taken e x
  tells_by (Taken h frames) outcomes.Taken b = refl
  tells_by (KernelStackBad h frames) outcomes.KernelStackBad b = refl
  tells_by (StopsGuest stop) (outcomes.Stopped code) b = refl
  tells_by (Taken h frames) outcomes.KernelStackBad b = absurd b
  tells_by (Taken h frames) (outcomes.Stopped code) b = absurd b
  tells_by (KernelStackBad h frames) outcomes.Taken b = absurd b
  tells_by (KernelStackBad h frames) (outcomes.Stopped code) b = absurd b
  tells_by (StopsGuest stop) outcomes.Taken b = absurd b
  tells_by (StopsGuest stop) outcomes.KernelStackBad b = absurd b

  pub tells : (r : Initiated) (offset : ℕ) (note : Note) → note ≡ noted r offset → offset ≡ vector_offset e → Initiates e m s g r m' s' g' → note ≡ taken_by (guest_of m.memory g) e
  tells r offset note is at k = is ∙ ap (noted r) at ∙ tells_by (initiate (guest_of m.memory g) e) r k.is
