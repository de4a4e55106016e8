-- Worked examples of audits, checked by computation: a terminal and a guest of level 1, a volume above and one below, an audit
-- of level 15.
use Rattle.std.specs.Prelude.{◌≡◌, ℕ, List, [], ◌∷◌, Option, codes, false, None, Some, refl}
use Rattle.std.specs.Fmt.{digits}
use Rattle.vv_class.specs.Class.{does_flow, is_subset}
use Rattle.vv_class.specs.Text.{categories_below, class_text}
use Rattle.vv_class.specs.declared.class.AccessClass.{AccessClass}
use Rattle.sys_audit.specs.Audit.{audit_record}
use Rattle.sys_audit_check.specs.Audited.{Entry, audit_bytes, opening_server}
use Rattle.sys_audit_check.specs.Lines.{through}
use Rattle.sys_audit_check.specs.Reading.{command_in, entry_in, followed, followed_by}
use Rattle.sys_audit_check.specs.declared.replay.Replay.{Replay}
use Rattle.sys_objects.specs.declared.records.Config.{Config}
use Rattle.sys_objects.specs.declared.records.VolumeRow.{VolumeRow}
use Rattle.sys_server.specs.Apply.{applied}
use Rattle.sys_server.specs.CommandLine.{asked_in}
use Rattle.sys_server.specs.Verdict.{judged}

abbrev level : ℕ → AccessClass
level n = record { secrecy = n; secrecy_cats = 0; integrity = 0; integrity_cats = 0 }

abbrev volume : List ℕ → ℕ → ℕ → VolumeRow
volume name drive n = record { name = name; drive = drive; blocks = 8; class = level n }

abbrev pub small : Config
small = record {
  slice = 3;
  audit = Some (record { line = 9; class = level 15 });
  terminals = record { name = codes "T1"; line = 0; class = level 1 } ∷ [];
  volumes = volume (codes "SEC") 0 2 ∷ volume (codes "PUB") 1 0 ∷ [];
  printers = [];
  guests = record {
    name = codes "A";
    class = level 1;
    pages = 64;
    image = codes "a";
    load = 512;
    start = 512;
    autostart = false;
    console = None;
    printer = None;
    dump = None;
    mounts = None ∷ None ∷ None ∷ None ∷ [];
    modify_faults = false;
    quantum = 10;
  } ∷ [];
}

abbrev said : ℕ → List ℕ → Entry
said round text = record { round = round; terminal = 0; text = text }

-- A volume above isn't seen; a dismount is granted where the mount before it was, and not twice. An empty command leaves a
-- blank after the reply.
pub records :
    audit_bytes small (opening_server small) (
    said 1 (codes "MOUNT A 0 SEC READ") ∷ said 1 (codes "MOUNT A 0 PUB READ") ∷ said 2 (codes "DISMOUNT A 0") ∷ said 7 (codes "DISMOUNT A 0") ∷ said 7 [] ∷ [])
    ≡ codes "1 T1 1{};0{} NO SUCH OBJECT MOUNT A 0 SEC READ\r\n1 T1 1{};0{} OK MOUNT A 0 PUB READ\r\n2 T1 1{};0{} OK DISMOUNT A 0\r\n7 T1 1{};0{} NO SUCH OBJECT DISMOUNT A 0\r\n7 T1 1{};0{} BAD COMMAND \r\n"
unfolding asked_in judged does_flow is_subset applied audit_record class_text categories_below digits
records = refl

-- what follows the last line feed is itself a line
pub lines : (through 1 (codes "a\nb\nc") ≡ codes "a\n") × (through 3 (codes "a\nb\nc") ≡ codes "a\nb\nc") × (through 2 (codes "\n\n") ≡ codes "\n\n") × (through 0 (codes "a") ≡ [])
lines = (refl, refl, refl, refl)

-- a replay that has reached a round, with the mounts of the configuration
abbrev at_round : ℕ → Replay
at_round round = record { round = round; server = opening_server small }

abbrev later : ℕ → List ℕ → Option Replay
later round line = followed small (at_round round) line

-- the server doesn't grant the mount of a volume that isn't seen
pub granted_unseen : (later 1 (codes "1 T1 1{};0{} OK MOUNT A 0 SEC READ\r\n") ≡ None) × (later 1 (codes "1 T1 1{};0{} NO SUCH OBJECT MOUNT A 0 SEC READ\r\n") ≡ Some (at_round 1))
unfolding entry_in command_in followed_by asked_in judged does_flow is_subset applied audit_record class_text categories_below digits
granted_unseen = (refl, refl)

-- nothing is mounted at first
pub granted_empty : (later 1 (codes "1 T1 1{};0{} OK DISMOUNT A 0\r\n") ≡ None) × (later 1 (codes "1 T1 1{};0{} NO SUCH OBJECT DISMOUNT A 0\r\n") ≡ Some (at_round 1))
unfolding entry_in command_in followed_by asked_in judged does_flow is_subset applied audit_record class_text categories_below digits
granted_empty = (refl, refl)

-- rounds are 1 to 1,000,000 without a zero in front, and never fall
pub rounds :
    (later 2 (codes "1 T1 1{};0{} OK SHOW\r\n") ≡ None) × (later 2 (codes "3 T1 1{};0{} OK SHOW\r\n") ≡ Some (at_round 3)) × (later 1 (codes "0 T1 1{};0{} OK SHOW\r\n") ≡ None)
    × (later 1 (codes "01 T1 1{};0{} OK SHOW\r\n") ≡ None) × (later 1 (codes "1000000 T1 1{};0{} OK SHOW\r\n") ≡ Some (at_round 1000000)) × (later 1 (codes "1000001 T1 1{};0{} OK SHOW\r\n") ≡ None)
unfolding entry_in command_in followed_by asked_in judged does_flow is_subset applied audit_record class_text categories_below digits
rounds = (refl, refl, refl, refl, refl, refl)

-- a terminal has its whole name, and its class
pub terminals :
    (later 1 (codes "1 T 1{};0{} OK SHOW\r\n") ≡ None) × (later 1 (codes "1 T10 1{};0{} OK SHOW\r\n") ≡ None) × (later 1 (codes "1 A 1{};0{} OK SHOW\r\n") ≡ None) × (later 1 (codes "1 T1 2{};0{} OK SHOW\r\n") ≡ None)
unfolding entry_in command_in followed_by asked_in judged does_flow is_subset applied audit_record class_text categories_below digits
terminals = (refl, refl, refl, refl)

-- a reply goes as far as it can; what follows is the text, also where that looks like a reply, or begins with a blank
pub replies :
    (later 1 (codes "1 T1 1{};0{} BAD COMMAND OK\r\n") ≡ Some (at_round 1)) × (later 1 (codes "1 T1 1{};0{} BAD COMMAND  SHOW\r\n") ≡ Some (at_round 1)) × (later 1 (codes "1 T1 1{};0{} OK  SHOW\r\n") ≡ None)
    × (later 1 (codes "1 T1 1{};0{} NO\r\n") ≡ None)
unfolding entry_in command_in followed_by asked_in judged does_flow is_subset applied audit_record class_text categories_below digits
replies = (refl, refl, refl, refl)

-- a line ends with a carriage return and a line feed, and its text has no other
pub ends :
    (later 1 (codes "1 T1 1{};0{} OK SHOW") ≡ None) × (later 1 (codes "1 T1 1{};0{} OK SHOW\r") ≡ None) × (later 1 (codes "1 T1 1{};0{} OK SHOW\n") ≡ None) × (later 1 (codes "\r\n") ≡ None) × (later 1 (codes "\n") ≡ None)
    × (later 1 (codes "1 T1 1{};0{} BAD COMMAND \t\r\n") ≡ None) × (later 1 (codes "1 T1 1{};0{} BAD COMMAND \r\r\n") ≡ None)
unfolding entry_in command_in followed_by asked_in judged does_flow is_subset applied audit_record class_text categories_below digits
ends = (refl, refl, refl, refl, refl, refl, refl)
