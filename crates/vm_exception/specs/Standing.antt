-- A guest in a machine.
use Rattle.vax_hw.specs.Machine.{Machine}
use Rattle.vm_shadow.specs.Shadowed.{Shadowed}
use Rattle.vm_state.specs.declared.guest_state.GuestState.{GuestState}

-- the machine, the guest's shadow page tables, and its state
pub record Standing : Type 0 where
  pub machine : Machine
  pub tables : Shadowed
  pub state : GuestState

abbrev pub standing : Machine → Shadowed → GuestState → Standing
standing m s g = record { machine = m; tables = s; state = g }
