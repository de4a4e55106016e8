-- Worked examples of events, by computation: replies, consoles that move, audits, HALT and START.
use Rattle.std.specs.Prelude.{◌≡◌, ℕ, List, [], ◌∷◌, ◌++◌, codes, false, true, map, refl, Some, None}
use Rattle.sys_objects.specs.declared.records.GuestRow.{GuestRow}
use Rattle.sys_objects.specs.declared.records.Terminal.{Terminal}
use Rattle.sys_state.specs.Guests.{reset}
use Rattle.sys_state.specs.Run.{Input, run}
use Rattle.sys_state.specs.ShownSetup.{audit, break_at, config, guest, line_at, terminal, volume, whole_run}
use Rattle.sys_state.specs.State.{bytes_on}
use Rattle.vm_state.specs.State.{Guest}

-- A terminal and a guest of level 1, a volume above and one below, and an audit. A volume that isn't seen is as one that
-- doesn't exist, whatever is asked of it; a lower one may be read.
abbrev pub mounts : Input
mounts = record {
  config =
      let volumes = volume (codes "SEC") 0 2 ∷ volume (codes "PUB") 1 0 ∷ [] in
      config (audit 9 15) (terminal (codes "T1") 0 1 ∷ []) volumes [] (guest (codes "A") 1 1 1 false None ∷ []);
  images = [] ∷ [];
  volumes = ([] ∷ []) ∷ ([] ∷ []) ∷ [];
  events =
      line_at 1 (codes "T1") (codes "MOUNT A 0 SEC READ")
      ∷ line_at 1 (codes "T1") (codes "MOUNT A 0 PUB WRITE")
      ∷ line_at 1 (codes "T1") (codes "MOUNT A 0 PUB READ")
      ∷ line_at 1 (codes "T1") (codes "DISMOUNT A 2")
      ∷ line_at 1 (codes "T1") (codes "MOUNT A 4 PUB READ")
      ∷ line_at 2 (codes "T1") (codes "HALT X") ∷ [];
  rounds = 2;
}

pub mount_replies : bytes_on 0 (run mounts).puts ≡
    codes "NO SUCH OBJECT\r\n"
    ++ codes "DENIED WRITE\r\n"
    ++ codes "OK\r\n"
    ++ codes "NO SUCH OBJECT\r\n"
    ++ codes "BAD COMMAND\r\n"
    ++ codes "NO SUCH OBJECT\r\n"
unfolding whole_run
mount_replies = refl

pub mount_audit : bytes_on 9 (run mounts).puts ≡
    codes "1 T1 1{};0{} NO SUCH OBJECT MOUNT A 0 SEC READ\r\n"
    ++ codes "1 T1 1{};0{} DENIED WRITE MOUNT A 0 PUB WRITE\r\n"
    ++ codes "1 T1 1{};0{} OK MOUNT A 0 PUB READ\r\n"
    ++ codes "1 T1 1{};0{} NO SUCH OBJECT DISMOUNT A 2\r\n"
    ++ codes "1 T1 1{};0{} BAD COMMAND MOUNT A 4 PUB READ\r\n"
    ++ codes "2 T1 1{};0{} NO SUCH OBJECT HALT X\r\n"
unfolding whole_run
mount_audit = refl

-- two terminals of level 0
abbrev two_terminals : List Terminal
two_terminals = terminal (codes "T1") 0 0 ∷ terminal (codes "T2") 1 0 ∷ []

-- Two terminals of the guest's class: the second takes its console from the first, which sees what there is.
abbrev pub consoles : Input
consoles = record {
  config = config (audit 9 0) two_terminals [] [] (guest (codes "A") 0 1 1 false None ∷ []);
  images = [] ∷ [];
  volumes = [];
  events =
      line_at 1 (codes "T1") (codes "CONNECT A")
      ∷ line_at 2 (codes "T2") (codes "CONNECT A")
      ∷ line_at 3 (codes "T1") (codes "SHOW")
      ∷ break_at 3 (codes "T2")
      ∷ line_at 3 (codes "T2") [] ∷ [];
  rounds = 3;
}

abbrev console_audit : List ℕ
console_audit =
    codes "1 T1 0{};0{} OK CONNECT A\r\n"
    ++ codes "2 T2 0{};0{} OK CONNECT A\r\n"
    ++ codes "3 T1 0{};0{} OK SHOW\r\n"
    ++ codes "3 T2 0{};0{} BAD COMMAND \r\n"

pub console_moves :
    (bytes_on 0 (run consoles).puts ≡ codes "OK\r\nCONSOLE TAKEN\r\nVM A 0{};0{} STOPPED\r\nOK\r\n")
    × (bytes_on 1 (run consoles).puts ≡ codes "OK\r\nSERVER\r\nBAD COMMAND\r\n")
    × (bytes_on 9 (run consoles).puts ≡ console_audit)
unfolding whole_run
console_moves = (refl, refl, refl)

-- A guest that branches to itself, on the console of the first terminal. The second stops it, which the first is shown
-- before the second's reply; stops it again, which changes nothing; and starts it. The first types a line to it.
abbrev pub stopping : Input
stopping = record {
  config = config None two_terminals [] [] (guest (codes "A") 0 2 2 true (Some 0) ∷ []);
  images = (0x11 ∷ 0xfe ∷ []) ∷ [];
  volumes = [];
  events =
      line_at 2 (codes "T2") (codes "HALT A")
      ∷ line_at 2 (codes "T2") (codes "HALT A")
      ∷ line_at 3 (codes "T2") (codes "START A")
      ∷ line_at 3 (codes "T1") (codes "HI") ∷ [];
  rounds = 3;
}

pub guest_stops :
    (bytes_on 0 (run stopping).puts ≡ codes "?02 00000200\r\n")
    × (bytes_on 1 (run stopping).puts ≡ codes "OK\r\nOK\r\nOK\r\n")
    × (map (λ (g : Guest). g.state.halt) (run stopping).now.guests ≡ None ∷ [])
    × (map (λ (g : Guest). g.state.steps) (run stopping).now.guests ≡ 2 ∷ [])
    × (map (λ (g : Guest). g.state.console.waiting) (run stopping).now.guests ≡ (72 ∷ 73 ∷ 13 ∷ []) ∷ [])
unfolding whole_run
guest_stops = (refl, refl, refl, refl, refl)

-- START drops packets that wait, without a status: the guest's memory stays as it is.
pub start_forgets_packets : (row : GuestRow) (g : Guest) → ((reset row g).state.queue ≡ []) × ((reset row g).memory ≡ g.memory)
start_forgets_packets row g = (refl, refl)
