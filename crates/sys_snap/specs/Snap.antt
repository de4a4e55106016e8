-- Which bytes are a snapshot of what.
use Rattle.std.specs.Prelude.{ℕ, ◌≡◌, ◌≤◌, ◌*◌, List, length, true, All, Option, Ok}
use Rattle.std.specs.List.{AllZip}
use Rattle.vm_console.specs.Console.{IsConsole}
use Rattle.vm_clock.specs.Parts.{IsClock, parts_of_clock}
use Rattle.sys_config.specs.Config.{config_of}
use Rattle.sys_objects.specs.Rules.{may_mount}
use Rattle.sys_objects.specs.declared.records.GuestRow.{GuestRow}
use Rattle.sys_objects.specs.declared.records.Mount.{Mount}
use Rattle.sys_objects.specs.declared.records.VolumeRow.{VolumeRow}
use Rattle.sys_snap.specs.Conditions.{may_all_sit}
use Rattle.sys_state.specs.Run.{Moment}
use Rattle.sys_snap.specs.Written.{snap_bytes}
use Rattle.vm_state.specs.Allowed.{AreAllowed}
use Rattle.vm_state.specs.State.{Guest, State}
use Rattle.vm_state.specs.Stops.{IsHalt}

-- its registers are as many as there are, and its clock and its console are ones that can be
pub record IsSound (s : State) : Type 0 where
  pub sixteen : length s.r ≡ 16
  pub five : length s.stacks ≡ 5
  pub clock : IsClock (parts_of_clock s.clock)
  pub console : IsConsole s.console
  pub few_bytes : length s.console.waiting ≤ 256

-- what a record may hold, of a guest with a memory of `size` bytes
pub record IsRecord (size : ℕ) (s : State) : Type 0 where
  pub sound : IsSound s
  pub allowed : AreAllowed size s
  pub halt : IsHalt s.halt

pub record IsGuestOf (row : GuestRow) (g : Guest) : Type 0 where
  pub size : length g.memory ≡ 512 * row.pages
  pub modify_faults : g.state.modify_faults ≡ row.modify_faults
  pub is : IsRecord (512 * row.pages) g.state

-- four units, each with a mount that the guest may have
pub record AreUnitsOf (volumes : List VolumeRow) (row : GuestRow) (units : List (Option Mount)) : Type 0 where
  pub four : length units ≡ 4
  pub may : All (λ m. may_mount volumes row.class m ≡ true) units

pub record IsVolumeOf (row : VolumeRow) (blocks : List (List ℕ)) : Type 0 where
  pub many : length blocks ≡ row.blocks
  pub long : All (λ b. length b ≡ 512) blocks

-- what a system can be between two rounds
pub record IsMoment (m : Moment) : Type 0 where
  pub few_rounds : m.made ≤ 1000000
  pub seated : may_all_sit m.config.guests m.config.terminals m.state.connected ≡ true
  pub mounted : AllZip (AreUnitsOf m.config.volumes) m.config.guests m.state.mounts
  pub guests : AllZip IsGuestOf m.config.guests m.state.guests
  pub volumes : AllZip IsVolumeOf m.config.volumes m.state.volumes

-- `Snap`
pub record IsSnap (bytes : List ℕ) (m : Moment) : Type 0 where
  pub text : List ℕ
  pub few_bytes : length text ≤ 262144
  pub means : config_of text ≡ Ok m.config
  pub moment : IsMoment m
  pub is : bytes ≡ snap_bytes text m
