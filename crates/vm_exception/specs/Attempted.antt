-- An attempt to initiate an exception, over a machine and a guest's shadow page tables.
use Rattle.std.specs.Prelude.{◌≡◌}
use Rattle.vax_hw.specs.Machine.{Machine}
use Rattle.vm_exception.specs.Standing.{Standing, standing}
use Rattle.vm_exception.specs.Initiated.{InitiatesTo}
use Rattle.vm_exception.specs.declared.attempts.Attempt.{Attempt}
use Rattle.vm_exception.specs.declared.attempts.Attempt.TheVariants as attempts
use Rattle.vm_shadow.specs.Shadowed.{Shadowed}
use Rattle.vm_shadow.specs.StandsFor.{OnlyGuest, StandsFor}
use Rattle.vm_state.specs.Initiate as initiations
use Rattle.vm_state.specs.Initiate.{Arrives, Halts, StackFaulty, attempt}
use Rattle.vm_state.specs.Partition.{guest_of}
use Rattle.vm_state.specs.State.{HasPlace}
use Rattle.vm_state.specs.Stops.{stop_code}
use Rattle.vm_state.specs.declared.exception.Exc.{Exc}
use Rattle.vm_state.specs.declared.guest_state.GuestState.{GuestState}

-- nothing changed
pub record Stays (m : Machine) (s : Shadowed) (g : GuestState) (m' : Machine) (s' : Shadowed) (g' : GuestState) : Type 0 where
  pub machine : m' ≡ m
  pub shadow : s' ≡ s
  pub guest : g' ≡ g

-- by the definition
abbrev pub IsAttempted : initiations.Attempt → Attempt → (before after : Standing) → Type 0
IsAttempted (Arrives h frames) attempts.Arrives x y = InitiatesTo h frames x.tables y.machine y.tables y.state
IsAttempted (StackFaulty stack) (attempts.StackFaulty is_interrupt_stack) x y =
    (is_interrupt_stack ≡ stack) × Stays x.machine x.tables x.state y.machine y.tables y.state
IsAttempted (Halts stop) (attempts.Halts code) x y = (code ≡ stop_code stop) × Stays x.machine x.tables x.state y.machine y.tables y.state
IsAttempted _ _ x y = ⊥

pub record Attempts (e : Exc) (m : Machine) (s : Shadowed) (g : GuestState) (result : Attempt) (m' : Machine) (s' : Shadowed) (g' : GuestState) : Type 0 where
  pub is : IsAttempted (attempt (guest_of m.memory g) e) result (standing m s g) (standing m' s' g')
  pub stands : StandsFor m'.memory s' g'
  pub place : HasPlace g.pages g.base g.start g'
  pub only : OnlyGuest s m m'
