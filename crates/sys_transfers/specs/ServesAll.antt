-- The packets of a guest's queue are served, and those of one of several guests.
use Rattle.std.specs.Prelude.{◌≡◌, ℕ, List, Option, Some, slice_get}
use Rattle.sys_guests.specs.Changes.{ChangesOne}
use Rattle.sys_guests.specs.Kernel.{Scene}
use Rattle.sys_guests.specs.Layout.{guests_in}
use Rattle.sys_guests.specs.Present.{KeepsAll}
use Rattle.sys_devices.specs.Shows.{Shows}
use Rattle.sys_objects.specs.declared.records.Config.{Config}
use Rattle.sys_objects.specs.declared.records.GuestRow.{GuestRow}
use Rattle.sys_objects.specs.declared.records.Mount.{Mount}
use Rattle.sys_state.specs.FirstTouches.{touches_of_queue}
use Rattle.sys_state.specs.Guests.{with_no_queue}
use Rattle.sys_state.specs.Places.{changed}
use Rattle.sys_state.specs.State.{bytes_on}
use Rattle.sys_state.specs.Transfers.{Served, served}
use Rattle.vm_simulation_laws.specs.Present.{HasPresent}
use Rattle.vm_guest.specs.Kept.{Becomes}
use Rattle.sys_transfers.specs.Serves.{GuestScene, guest_there}
use Rattle.vm_state.specs.State.{Guest}
use Rattle.vm_state.specs.Touches.{Touching}

-- all packets that wait, taken from the queue first
unfoldable pub all_packets : Config → GuestRow → List (Option Mount) → Guest → List (List (List ℕ)) → Served
all_packets c row units g volumes = served c row units (with_no_queue g) g.state.queue volumes

-- first touches after its packets
unfoldable pub all_touched : Config → GuestRow → List (Option Mount) → Guest → List (List (List ℕ)) → Touching → Touching
all_touched c row units g volumes t = touches_of_queue c row units (with_no_queue g) g.state.queue volumes t

-- A guest's packets are served. What is shown is said beside this.
pub record ServesGuest (c : Config) (row : GuestRow) (units : List (Option Mount)) (before after : GuestScene) : Type 0 where
  pub becomes : Becomes (all_packets c row units (guest_there before) before.volumes).guest before.machine before.guest after.machine after.guest
  pub volumes_are : after.volumes ≡ (all_packets c row units (guest_there before) before.volumes).volumes
  pub present : (t : Touching) → HasPresent before.guest.shadow t.present → HasPresent after.guest.shadow (all_touched c row units (guest_there before) before.volumes t).present

-- The guest at a place is served by its row and with what is mounted at its units; nothing happens to the others.
pub record ServesAt (place : ℕ) (before : Scene) (volumes : List (List (List ℕ))) (after : Scene) (volumes' : List (List (List ℕ))) : Type 0 where
  pub row : GuestRow
  pub has_row : slice_get before.kernel.config.guests place ≡ Some row
  pub units : List (Option Mount)
  pub has_units : slice_get before.kernel.server.mounts place ≡ Some units
  pub guest : Guest
  pub has_guest : slice_get (guests_in before.machine.memory before.kernel.guests.items) place ≡ Some guest
  pub changes : ChangesOne before.kernel.config.guests place (λ g. (all_packets before.kernel.config row units g volumes).guest) before.machine before.kernel.guests.items after.machine after.kernel.guests.items
  pub volumes_are : volumes' ≡ (all_packets before.kernel.config row units guest volumes).volumes
  pub shows : Shows before.kernel.marks after.kernel.marks before.lines after.lines (λ line. bytes_on line (all_packets before.kernel.config row units guest volumes).puts)
  pub rest : after.kernel ≡ record before.kernel { guests = after.kernel.guests; marks = after.kernel.marks }
  pub machine : after.machine ≡ record before.machine { memory = after.machine.memory }
  pub present : KeepsAll (λ ts. changed (all_touched before.kernel.config row units guest volumes) ts place) before.kernel.guests.items after.kernel.guests.items
