-- Many bytes of a guest's memory are written. What is dropped was read from one of their frames.
use Rattle.std.specs.Prelude.{◌≡◌, ℕ, List}
use Rattle.vv_base.specs.Bytes.{overwritten}
use Rattle.vax_hw.specs.Machine.{Machine}
use Rattle.vm_simulation_laws.specs.Moves.{Drops}
use Rattle.vm_guest.specs.Kept.{frames_from}
use Rattle.vm_shadow.specs.Shadowed.{Shadowed}
use Rattle.vm_shadow.specs.StandsFor.{OnlyGuest, StandsFor}
use Rattle.vm_state.specs.Partition.{partition_of}
use Rattle.vm_state.specs.declared.guest_state.GuestState.{GuestState}

pub record StoresBytes (pa : ℕ) (bytes : List ℕ) (m : Machine) (s : Shadowed) (g : GuestState) (m' : Machine) (s' : Shadowed) : Type 0 where
  pub stands : StandsFor m'.memory s' g
  pub memory : partition_of m'.memory g ≡ overwritten (partition_of m.memory g) pa bytes
  pub only : OnlyGuest s m m'
  pub tables : s'.at ≡ s.at
  pub drops : Drops (frames_from pa bytes) s s'
