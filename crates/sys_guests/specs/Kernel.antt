-- What the kernel keeps of several guests, and what its work leads to.
use Rattle.std.specs.Prelude.{ℕ, ◌≡◌, ◌<◌, List, length, take, drop, Option, None, IfSome, All}
use Rattle.vax_hw.specs.Machine.{Machine}
use Rattle.vv_io.specs.Lines.{Seen}
use Rattle.sys_guests.specs.Layout.{AreInMachine, OnlyGuests, guests_in}
use Rattle.sys_guests.specs.declared.kernel.Kernel.{Kernel}
use Rattle.sys_devices.specs.Shows.{Shows}
use Rattle.sys_objects.specs.Condition.{IsConfig}
use Rattle.sys_objects.specs.declared.records.Mount.{Mount}
use Rattle.sys_state.specs.State.{SystemState, Went, bytes_on}

-- The state that it stands for, with the machine's memory and the volumes: the places of terminals and guests that don't
-- exist are left out.
abbrev pub kernel_state : List ℕ → Kernel → List (List (List ℕ)) → SystemState
kernel_state memory k volumes = record {
  connected = take (length k.config.terminals) k.server.at;
  mounts = take (length k.config.guests) k.server.mounts;
  guests = guests_in memory k.guests.items;
  volumes = volumes;
}

-- four units, each with nothing or one of the configuration's `volumes` volumes
pub record AreUnits (volumes : ℕ) (units : List (Option Mount)) : Type 0 where
  pub four : length units ≡ 4
  pub mounted : All (λ m. IfSome m (λ (n : Mount). n.volume < volumes)) units

-- the invariant of the kernel, with the machine's memory
pub record IsKernel (memory : List ℕ) (k : Kernel) : Type 0 where
  pub accepted : IsConfig k.config
  pub placed : AreInMachine k.config.guests memory k.guests.items
  pub terminals : length k.server.at ≡ 32
  pub guests : length k.server.mounts ≡ 16
  -- a terminal has no guest, or one of the configuration; beyond the terminals there is none
  pub consoles : All (λ o. IfSome o (λ g. g < length k.config.guests)) k.server.at
  pub beyond : All (λ o. o ≡ None) (drop (length k.config.terminals) k.server.at)
  pub mounts : All (AreUnits (length k.config.volumes)) k.server.mounts

-- where the kernel works: the machine, its own parts, and the lines
pub record Scene : Type 0 where
  pub machine : Machine
  pub kernel : Kernel
  pub lines : List Seen

abbrev pub scene : Machine → Kernel → List Seen → Scene
scene m k lines = record { machine = m; kernel = k; lines = lines }

-- The kernel's work leads to this state and shows these bytes. Nothing else of the machine changes but the guests' memories and
-- their real tables.
pub record Leads (w : Went SystemState) (before after : Scene) (volumes' : List (List (List ℕ))) : Type 0 where
  pub state : kernel_state after.machine.memory after.kernel volumes' ≡ w.now
  pub shows : Shows before.kernel.marks after.kernel.marks before.lines after.lines (λ line. bytes_on line w.puts)
  pub holds : IsKernel after.machine.memory after.kernel
  pub config : after.kernel.config ≡ before.kernel.config
  pub machine : after.machine ≡ record before.machine { memory = after.machine.memory }
  pub only : OnlyGuests before.kernel.config.guests before.machine.memory after.machine.memory
  pub size : length after.machine.memory ≡ length before.machine.memory
