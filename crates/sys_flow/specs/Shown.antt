-- Worked examples of edges, of what is reached and of the report, checked by computation: a terminal and a guest of level 1,
-- a volume above and one below.
use Rattle.std.specs.Prelude.{◌≡◌, ℕ, Bool, List, [], ◌∷◌, length, codes, map, true, false, None, Some, refl}
use Rattle.std.specs.List.{range_with_len}
use Rattle.vv_class.specs.Class.{does_flow, is_subset}
use Rattle.vv_class.specs.declared.class.AccessClass.{AccessClass}
use Rattle.sys_flow.specs.Reach.{all_objects, has_edge, leads}
use Rattle.sys_flow.specs.Relation.{reads}
use Rattle.sys_flow.specs.Report.{flow_line, flow_text}
use Rattle.sys_objects.specs.declared.records.Config.{Config}
use Rattle.sys_objects.specs.declared.records.GuestRow.{GuestRow}
use Rattle.sys_objects.specs.declared.records.VolumeRow.{VolumeRow}

abbrev level : ℕ → AccessClass
level n = record { secrecy = n; secrecy_cats = 0; integrity = 0; integrity_cats = 0 }

abbrev volume : List ℕ → ℕ → ℕ → VolumeRow
volume name drive n = record { name = name; drive = drive; blocks = 8; class = level n }

abbrev guest : GuestRow
guest = record {
  name = codes "A";
  class = level 1;
  pages = 64;
  image = codes "a";
  load = 512;
  start = 512;
  autostart = false;
  console = None;
  printer = None;
  dump = None;
  mounts = None ∷ None ∷ None ∷ None ∷ [];
  modify_faults = false;
  quantum = 10;
}

abbrev pub small : Config
small = record {
  slice = 3;
  audit = None;
  terminals = record { name = codes "T1"; line = 0; class = level 1 } ∷ [];
  volumes = volume (codes "SEC") 0 2 ∷ volume (codes "PUB") 1 0 ∷ [];
  printers = [];
  guests = guest ∷ [];
}

-- the edges, row by row: T1, SEC, PUB, A
abbrev row : Config → ℕ → List Bool
row c a = map (has_edge c a) (range_with_len 0 (length (all_objects c)))

edges : map (row small) (range_with_len 0 4) ≡ (false ∷ false ∷ false ∷ true ∷ []) ∷ (false ∷ false ∷ false ∷ false ∷ []) ∷ (false ∷ false ∷ false ∷ true ∷ []) ∷ (true ∷ false ∷ false ∷ false ∷ []) ∷ []
unfolding does_flow is_subset
edges = refl

-- through the guest the low volume reaches the terminal
pub_to_terminal : leads small 2 (3 ∷ []) 0 ≡ true
unfolding does_flow is_subset
pub_to_terminal = refl

-- and the guest itself again, which the report leaves out
guest_to_itself : leads small 3 (0 ∷ []) 3 ≡ true
unfolding does_flow is_subset
guest_to_itself = refl

-- T1, PUB and A reach T1 and A: bits 0 and 3
lines : flow_text small (reads (9 ∷ 0 ∷ 9 ∷ 9 ∷ [])) ≡ codes "FLOW T1 A\nFLOW PUB T1\nFLOW PUB A\nFLOW A T1\n"
unfolding flow_line
lines = refl

-- the terminal reaches the audit, which is last and has no name
abbrev audited : Config
audited = record small { audit = Some (record { line = 1; class = level 15 }) }

to_the_audit : (row audited 0 ≡ false ∷ false ∷ false ∷ true ∷ true ∷ []) × (row audited 3 ≡ true ∷ false ∷ false ∷ false ∷ false ∷ []) × (row audited 4 ≡ false ∷ false ∷ false ∷ false ∷ false ∷ [])
unfolding does_flow is_subset
to_the_audit = (refl, refl, refl)

volume_to_the_audit : leads audited 2 (3 ∷ 0 ∷ []) 4 ≡ true
unfolding does_flow is_subset
volume_to_the_audit = refl

audit_shown : flow_text audited (reads (25 ∷ 0 ∷ 25 ∷ 25 ∷ 0 ∷ [])) ≡ codes "FLOW T1 A\nFLOW T1 *\nFLOW PUB T1\nFLOW PUB A\nFLOW PUB *\nFLOW A T1\nFLOW A *\n"
unfolding flow_line
audit_shown = refl

-- without a terminal of its class nobody can have the guest mount a volume: SEC, PUB, A
nothing : map (row (record small { terminals = [] })) (range_with_len 0 3) ≡ (false ∷ false ∷ false ∷ []) ∷ (false ∷ false ∷ false ∷ []) ∷ (false ∷ false ∷ false ∷ []) ∷ []
unfolding does_flow is_subset
nothing = refl

-- a terminal of another class is no better, but one into which the guest flows shows whether it runs
higher : row (record small { terminals = record { name = codes "T2"; line = 0; class = level 2 } ∷ [] }) 3 ≡ true ∷ false ∷ false ∷ false ∷ []
unfolding does_flow is_subset
higher = refl

-- what the guest mounts in the configuration, for reading and for writing, and its printer: V, W, P, A
abbrev mounting : Config
mounting = record {
  slice = 3;
  audit = None;
  terminals = [];
  volumes = volume (codes "V") 0 0 ∷ volume (codes "W") 1 1 ∷ [];
  printers = record { name = codes "P"; line = 0; class = level 1 } ∷ [];
  guests = record guest { printer = Some 0; mounts = Some (record { volume = 0; write = false }) ∷ None ∷ Some (record { volume = 1; write = true }) ∷ None ∷ [] } ∷ [];
}

mounted : map (row mounting) (range_with_len 0 4) ≡ (false ∷ false ∷ false ∷ true ∷ []) ∷ (false ∷ false ∷ false ∷ true ∷ []) ∷ (false ∷ false ∷ false ∷ false ∷ []) ∷ (false ∷ true ∷ true ∷ false ∷ []) ∷ []
unfolding does_flow is_subset
mounted = refl
