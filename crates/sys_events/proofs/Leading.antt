-- What the kernel's work leads to, step by step.
use Rattle.std.proofs.Common.{ℕ, ◌≡◌, ◌<◌, ◌≤◌, List, [], ◌++◌, length, map, take, slice_get, slice_set, refl, sym, ◌∙◌, subst, Bool, Some, None}
use Rattle.std.specs.Prelude.{Vec}
use Rattle.std.specs.declared.alloc.Global.{Global}
use Rattle.vax_hw.specs.Machine.{Machine}
use Rattle.vm_console.specs.Kept.{KeptOutput}
use Rattle.vm_guest.specs.Kept.{Kept}
use Rattle.vm_state.specs.State.{Guest}
use Rattle.vv_io.specs.Lines.{Seen}
use Rattle.sys_events.proofs.Seats.{disconnected, same_consoles, same_units, still_server}
use Rattle.sys_events.proofs.Lists.{take_set}
use Rattle.sys_events.specs.Happens.{server_obeyed}
use Rattle.sys_events.specs.Seats.{IsServer, Names}
use Rattle.sys_guests.specs.Changes.{ChangesOne, StartsOne, TakesStateAt}
use Rattle.sys_guests.specs.Kernel.{IsKernel, Leads, kernel_state, scene}
use Rattle.sys_guests.specs.Layout.{AreInMachine, end_of_guests, guests_in}
use Rattle.sys_guests.specs.declared.kernel.Kernel.{Kernel}
use Rattle.sys_devices.proofs.Showings.{shows_none, shows_same, shows_then}
use Rattle.sys_devices.specs.Shows.{Shows}
use Rattle.sys_objects.specs.Condition.{IsConfig}
use Rattle.sys_objects.specs.declared.records.Config.{Config}
use Rattle.sys_objects.specs.declared.records.GuestRow.{GuestRow}
use Rattle.sys_state.proofs.Consoles.{bytes_append}
use Rattle.sys_state.specs.Guests.{reset}
use Rattle.sys_state.specs.Places.{changed}
use Rattle.sys_state.specs.State.{Put, SystemState, Went, bytes_on, is_running}
use Rattle.sys_server.specs.Apply.{HasPlaces, applied}
use Rattle.sys_server.specs.declared.command.Command.{Command}

-- volumes, by their blocks
abbrev pub Volumes : Type 0
Volumes = List (List (List ℕ))

-- its server, and a kernel with this server
pub server_holds : (memory : List ℕ) (k : Kernel) → IsKernel memory k → IsServer k.config k.server
server_holds memory k h = record { terminals = h.terminals; guests = h.guests; consoles = h.consoles; beyond = h.beyond; mounts = h.mounts }

pub kernel_holds : (memory : List ℕ) (k : Kernel) → IsConfig k.config → AreInMachine k.config.guests memory k.guests.items → IsServer k.config k.server → IsKernel memory k
kernel_holds memory k accepted placed h = record { accepted = accepted; placed = placed; terminals = h.terminals; guests = h.guests; consoles = h.consoles; beyond = h.beyond; mounts = h.mounts }

-- one after another
pub leads_then : {v w : Went SystemState} {m n o : Machine} {k k' k'' : Kernel} {l l' l'' : List Seen} {x y : Volumes} → Leads v (scene m k l) (scene n k' l') x → Leads w (scene n k' l') (scene o k'' l'') y → Leads (record { now = w.now; puts = v.puts ++ w.puts }) (scene m k l) (scene o k'' l'') y
leads_then {v} {w} {m} {n} {o} {k} {k'} {k''} {l} {l'} {l''} {x} {y} a b = record {
  state = b.state;
  shows = shows_same k.marks k''.marks l l'' (λ line. bytes_on line v.puts ++ bytes_on line w.puts) (λ line. bytes_on line (v.puts ++ w.puts)) (λ line. sym (bytes_append line v.puts w.puts)) (shows_then a.shows b.shows);
  holds = b.holds;
  config = b.config ∙ a.config;
  machine = b.machine ∙ (λ i. record (a.machine i) { memory = o.memory });
  only = λ p later. b.only p (subst (λ (c : Config). end_of_guests c.guests ≤ p) (sym a.config) later) ∙ a.only p later;
  size = b.size ∙ a.size;
}

-- the same, with the definition in another form
pub leads_same : {v : Went SystemState} {m n : Machine} {k k' : Kernel} {l l' : List Seen} {x : Volumes} (w : Went SystemState) → v.now ≡ w.now → ((line : ℕ) → bytes_on line v.puts ≡ bytes_on line w.puts) → Leads v (scene m k l) (scene n k' l') x → Leads w (scene m k l) (scene n k' l') x
leads_same {v} {m} {n} {k} {k'} {l} {l'} {x} w now puts a = record {
  state = a.state ∙ now;
  shows = shows_same k.marks k'.marks l l' (λ line. bytes_on line v.puts) (λ line. bytes_on line w.puts) puts a.shows;
  holds = a.holds;
  config = a.config;
  machine = a.machine;
  only = a.only;
  size = a.size;
}

-- nothing happens
pub leads_none : (m : Machine) (k : Kernel) (l : List Seen) (x : Volumes) → IsKernel m.memory k → Leads (record { now = kernel_state m.memory k x; puts = [] }) (scene m k l) (scene m k l) x
leads_none m k l x h = record {
  state = refl;
  shows = shows_none k.marks l;
  holds = h;
  config = refl;
  machine = refl;
  only = λ p later. refl;
  size = refl;
}

-- something is shown
pub leads_shown : (m : Machine) (k : Kernel) (marks' : List Bool) (l l' : List Seen) (x : Volumes) (puts : List Put) → IsKernel m.memory k → Shows k.marks marks' l l' (λ line. bytes_on line puts) → Leads (record { now = kernel_state m.memory k x; puts = puts }) (scene m k l) (scene m (record k { marks = marks' }) l') x
leads_shown m k marks' l l' x puts h shows = record {
  state = refl;
  shows = shows;
  holds = kernel_holds m.memory (record k { marks = marks' }) h.accepted h.placed (server_holds m.memory k h);
  config = refl;
  machine = refl;
  only = λ p later. refl;
  size = refl;
}

-- a guest is changed, in this machine
changed_guest : (m m' : Machine) (k : Kernel) (guests' : Vec Kept Global) (port' : KeptOutput) (l : List Seen) (x : Volumes) (place : ℕ) (f : Guest → Guest) → IsKernel m.memory k → ChangesOne k.config.guests place f m k.guests.items m' guests'.items → m' ≡ record m { memory = m'.memory }
    → Leads (record { now = record (kernel_state m.memory k x) { guests = changed f (guests_in m.memory k.guests.items) place }; puts = [] }) (scene m k l) (scene m' (record k { guests = guests'; port = port' }) l) x
changed_guest m m' k guests' port' l x place f h c rest = record {
  state = λ i. record (kernel_state m.memory k x) { guests = c.guests i };
  shows = shows_none k.marks l;
  holds = kernel_holds m'.memory (record k { guests = guests'; port = port' }) h.accepted c.stay (server_holds m.memory k h);
  config = refl;
  machine = rest;
  only = c.only;
  size = c.size;
}

pub leads_turned : (m : Machine) (k : Kernel) (guests' : Vec Kept Global) (port' : KeptOutput) (l : List Seen) (x : Volumes) (place : ℕ) (f : Guest → Guest) → IsKernel m.memory k → TakesStateAt place f k.guests.items guests'.items
    → Leads (record { now = record (kernel_state m.memory k x) { guests = changed f (guests_in m.memory k.guests.items) place }; puts = [] }) (scene m k l) (scene m (record k { guests = guests'; port = port' }) l) x
leads_turned m k guests' port' l x place f h turns = changed_guest m m k guests' port' l x place f h (turns k.config.guests m h.placed) refl

pub leads_started : (m m' : Machine) (k : Kernel) (guests' : Vec Kept Global) (l : List Seen) (x : Volumes) (place : ℕ) (row : GuestRow) → IsKernel m.memory k → slice_get k.config.guests place ≡ Some row → StartsOne place m k.guests.items m' guests'.items → m' ≡ record m { memory = m'.memory }
    → Leads (record { now = record (kernel_state m.memory k x) { guests = changed (reset row) (guests_in m.memory k.guests.items) place }; puts = [] }) (scene m k l) (scene m' (record k { guests = guests' }) l) x
leads_started m m' k guests' l x place row h is starts rest = changed_guest m m' k guests' k.port l x place (reset row) h (starts k.config.guests row h.placed is) rest

-- the server does what is granted
pub leads_served : (m : Machine) (k : Kernel) (l : List Seen) (x : Volumes) (n : ℕ) (command : Command) → IsKernel m.memory k → n < length k.config.terminals → HasPlaces command → Names k.config command
    → Leads (server_obeyed n command (kernel_state m.memory k x)) (scene m k l) (scene m (record k { server = applied k.server n command }) l) x
leads_served m k l x n command h there places names =
    let running : List Bool = map is_running (guests_in m.memory k.guests.items) in
    let connected = same_consoles k.config k.server running n command in
    let mounts = same_units k.config k.server running n command names in
    record {
      state = λ i. record (kernel_state m.memory k x) { connected = connected i; mounts = mounts i };
      shows = shows_none k.marks l;
      holds = kernel_holds m.memory (record k { server = applied k.server n command }) h.accepted h.placed (still_server k.config k.server n command there places names (server_holds m.memory k h));
      config = refl;
      machine = refl;
      only = λ p later. refl;
      size = refl;
    }

-- a terminal is disconnected
pub leads_disconnected : (m : Machine) (k : Kernel) (l : List Seen) (x : Volumes) (n : ℕ) → IsKernel m.memory k → n < length k.config.terminals
    → Leads (record { now = record (kernel_state m.memory k x) { connected = slice_set (take (length k.config.terminals) k.server.at) n None }; puts = [] }) (scene m k l) (scene m (record k { server = record k.server { at = slice_set k.server.at n None } }) l) x
leads_disconnected m k l x n h there =
    let connected = take_set (length k.config.terminals) k.server.at n None in
    record {
      state = λ i. record (kernel_state m.memory k x) { connected = connected i };
      shows = shows_none k.marks l;
      holds = kernel_holds m.memory (record k { server = record k.server { at = slice_set k.server.at n None } }) h.accepted h.placed (disconnected k.config k.server n there (server_holds m.memory k h));
      config = refl;
      machine = refl;
      only = λ p later. refl;
      size = refl;
    }
