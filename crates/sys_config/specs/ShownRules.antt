-- Worked examples of the order of the rules: where two neighbouring ones are broken, the one of the lower number is named.
use Rattle.std.specs.Prelude.{◌≡◌, ℕ, List, [], ◌∷◌, codes, true, false, None, Some, Ok, Err, refl}
use Rattle.std.specs.Fmt.{digits}
use Rattle.std.specs.Str.{is_utf8, chars}
use Rattle.toml.proofs.OnLiterals.{toml_on_literals}
use Rattle.sys_config.specs.Config.{config_in, config_of, numbers_of, rows_of}
use Rattle.sys_config.specs.Entries.{audit_row_in, named_line_of, volume_row_in}
use Rattle.sys_config.specs.Guests.{bare_guest_of, guest_row_in}
use Rattle.sys_config.specs.Top.{tables_at, top_of, top_of_one, top_of_two}
use Rattle.sys_objects.specs.Faults.{fault}
use Rattle.sys_objects.specs.Judged.{validated}
use Rattle.sys_objects.specs.declared.records.Config.{Config}
use Rattle.sys_objects.specs.declared.records.GuestRow.{GuestRow}
use Rattle.sys_objects.specs.declared.records.PrinterRow.{PrinterRow}
use Rattle.sys_objects.specs.declared.records.Terminal.{Terminal}
use Rattle.sys_objects.specs.declared.records.VolumeRow.{VolumeRow}
use Rattle.vv_class.specs.Class.{does_flow, is_subset}
use Rattle.vv_class.specs.Text.{categories_below, class_in, class_text}
use Rattle.vv_class.specs.declared.class.AccessClass.{AccessClass}

-- no slice, and version 3
rule_1_before_2 : config_of (codes "version = 3\nquantum = 10\n") ≡ Err (fault 1 0)
unfolding toml_on_literals is_utf8 chars top_of top_of_one top_of_two tables_at numbers_of rows_of validated config_in config_of
rule_1_before_2 = refl

rule_2_before_3 : config_of (codes "version = 3\nquantum = 0\nslice = 3\n") ≡ Err (fault 2 0)
unfolding toml_on_literals is_utf8 chars top_of top_of_one top_of_two tables_at numbers_of rows_of validated config_in config_of
rule_2_before_3 = refl

rule_3_before_4 : config_of (codes "version = 1\nquantum = 0\nslice = 0\n") ≡ Err (fault 3 0)
unfolding toml_on_literals is_utf8 chars top_of top_of_one top_of_two tables_at numbers_of rows_of validated config_in config_of
rule_3_before_4 = refl

-- a slice above the quantum, and terminals that are no array
rule_4_before_5 : config_of (codes "version = 1\nquantum = 10\nslice = 11\nterminal = 1\n") ≡ Err (fault 4 0)
unfolding toml_on_literals is_utf8 chars top_of top_of_one top_of_two tables_at numbers_of rows_of validated config_in config_of
rule_4_before_5 = refl

-- volumes that are no array, and a terminal without a key
rule_5_before_6 : config_of (codes "version = 2\nslice = 3\nvolume = 1\n[[terminal]]\n") ≡ Err (fault 5 1)
unfolding toml_on_literals is_utf8 chars top_of top_of_one top_of_two tables_at numbers_of rows_of validated config_in config_of
rule_5_before_6 = refl

-- entries without keys, from here on
rule_6_before_7 : config_of (codes "version = 2\nslice = 3\n[[terminal]]\n[[volume]]\n") ≡ Err (fault 6 0)
unfolding toml_on_literals is_utf8 chars named_line_of top_of top_of_one top_of_two tables_at numbers_of rows_of validated config_in config_of
rule_6_before_7 = refl

rule_7_before_8 : config_of (codes "version = 2\nslice = 3\n[[volume]]\n[[printer]]\n") ≡ Err (fault 7 0)
unfolding toml_on_literals is_utf8 chars volume_row_in top_of top_of_one top_of_two tables_at numbers_of rows_of validated config_in config_of
rule_7_before_8 = refl

rule_8_before_9 : config_of (codes "version = 2\nslice = 3\n[[printer]]\n[[guest]]\n") ≡ Err (fault 8 0)
unfolding toml_on_literals is_utf8 chars named_line_of top_of top_of_one top_of_two tables_at numbers_of rows_of validated config_in config_of
rule_8_before_9 = refl

rule_9_before_10 : config_of (codes "version = 2\nslice = 3\n[[guest]]\n[audit]\n") ≡ Err (fault 9 0)
unfolding toml_on_literals is_utf8 chars guest_row_in bare_guest_of top_of top_of_one top_of_two tables_at numbers_of rows_of validated config_in config_of
rule_9_before_10 = refl

-- an audit without keys, and two terminals of one name
rule_10_before_11 : config_of (codes "version = 2\nslice = 3\n[[terminal]]\nname = \"T\"\nline = 0\nclass = \"0{};0{}\"\n[[terminal]]\nname = \"T\"\nline = 1\nclass = \"0{};0{}\"\n[audit]\n") ≡ Err (fault 10 0)
unfolding toml_on_literals is_utf8 chars audit_row_in named_line_of class_in class_text categories_below digits top_of top_of_one top_of_two tables_at numbers_of rows_of validated config_in config_of
rule_10_before_11 = refl

-- a configuration that keeps the rules 11 to 18, in which a printer, one more volume, a terminal's class, a guest and the audit's
-- class are open
abbrev level : ℕ → AccessClass
level n = record { secrecy = n; secrecy_cats = 0; integrity = 0; integrity_cats = 0 }

abbrev terminal : ℕ → Terminal
terminal n = record { name = codes "T1"; line = 4; class = level n }

abbrev volume : List ℕ → ℕ → VolumeRow
volume name drive = record { name = name; drive = drive; blocks = 10; class = level 1 }

abbrev printer : List ℕ → ℕ → ℕ → PrinterRow
printer name line n = record { name = name; line = line; class = level n }

abbrev guest : GuestRow
guest = record {
  name = codes "A";
  class = level 1;
  pages = 64;
  image = codes "a";
  load = 512;
  start = 512;
  autostart = true;
  console = Some 0;
  printer = Some 0;
  dump = None;
  mounts = Some (record { volume = 0; write = true }) ∷ None ∷ None ∷ None ∷ [];
  modify_faults = false;
  quantum = 10;
}

-- it writes a volume of another class
abbrev writer : GuestRow
writer = record guest { mounts = Some (record { volume = 1; write = true }) ∷ None ∷ None ∷ None ∷ [] }

abbrev whole : PrinterRow → List VolumeRow → ℕ → GuestRow → ℕ → Config
whole p more n g audit = record {
  slice = 3;
  audit = Some (record { line = 6; class = level audit });
  terminals = terminal n ∷ [];
  volumes = volume (codes "V1") 2 ∷ more;
  printers = p ∷ [];
  guests = g ∷ [];
}

abbrev low_volume : VolumeRow
low_volume = record (volume (codes "V2") 3) { class = level 0 }

keeps_the_rules : validated (whole (printer (codes "P1") 5 1) [] 1 guest 1) ≡ Ok tt
unfolding validated does_flow is_subset
keeps_the_rules = refl

-- a printer of the terminal's name and line: it is the third object, and the second line
rule_11_before_12 : validated (whole (printer (codes "T1") 4 1) [] 1 guest 1) ≡ Err (fault 11 2)
unfolding validated does_flow is_subset
rule_11_before_12 = refl

-- and a second volume on the first one's drive
rule_12_before_13 : validated (whole (printer (codes "P1") 4 1) (volume (codes "V2") 2 ∷ []) 1 guest 1) ≡ Err (fault 12 1)
unfolding validated does_flow is_subset
rule_12_before_13 = refl

-- and a printer into which the guest doesn't flow
rule_13_before_14 : validated (whole (printer (codes "P1") 5 0) (volume (codes "V2") 2 ∷ []) 1 guest 1) ≡ Err (fault 13 1)
unfolding validated does_flow is_subset
rule_13_before_14 = refl

-- and a console of another class
rule_14_before_15 : validated (whole (printer (codes "P1") 5 0) [] 0 guest 1) ≡ Err (fault 14 0)
unfolding validated does_flow is_subset
rule_14_before_15 = refl

-- and a volume of another class that is written
rule_15_before_16 : validated (whole (printer (codes "P1") 5 1) (low_volume ∷ []) 0 writer 1) ≡ Err (fault 15 0)
unfolding validated does_flow is_subset
rule_15_before_16 = refl

-- and an audit into which the terminal's class doesn't flow
rule_16_before_17 : validated (whole (printer (codes "P1") 5 1) (low_volume ∷ []) 1 writer 0) ≡ Err (fault 16 0)
unfolding validated does_flow is_subset
rule_16_before_17 = refl

-- and too many pages
rule_17_before_18 : validated (whole (printer (codes "P1") 5 1) [] 1 (record guest { pages = 16385 }) 0) ≡ Err (fault 17 0)
unfolding validated does_flow is_subset
rule_17_before_18 = refl

rule_18 : validated (whole (printer (codes "P1") 5 1) [] 1 (record guest { pages = 16385 }) 1) ≡ Err (fault 18 0)
unfolding validated does_flow is_subset
rule_18 = refl

most_pages : validated (whole (printer (codes "P1") 5 1) [] 1 (record guest { pages = 16384 }) 1) ≡ Ok tt
unfolding validated does_flow is_subset
most_pages = refl
