-- A printed configuration is read as what it was.
use Rattle.std.proofs.Common.{◌≡◌, ◌≤◌, ℕ, suc, pos, Bool, true, List, [], ◌∷◌, length, codes, Option, Some, None, Ok, option_map, IfSome, IsUtf8, refl, ap}
use Rattle.std.proofs.lemmas.Bool.{le-leb}
use Rattle.std.proofs.lemmas.Str.{is_utf8-from_IsUtf8}
use Rattle.toml.specs.Data.{Data, array, Members, no_members, member, get_member, as_table, members_depth}
use Rattle.toml.specs.Text.{are_tables}
use Rattle.toml.specs.Parse.{parse_document}
use Rattle.sys_config.specs.declared.numbers.Limits.{Limits}
use Rattle.sys_objects.specs.declared.records.Config.{Config}
use Rattle.sys_objects.specs.declared.records.Audit.{Audit}
use Rattle.sys_objects.specs.declared.records.GuestRow.{GuestRow}
use Rattle.sys_config.specs.Reads.{if_some, are_known}
use Rattle.sys_config.specs.Answers.{entries_from}
use Rattle.sys_config.specs.Top.{all_keys, top_of, top_of_two, audit_table, tables_at, count_of}
use Rattle.sys_config.specs.Entries.{terminal_row_in, volume_row_in, printer_row_in, audit_row_in}
use Rattle.sys_config.specs.Guests.{guest_row_in}
use Rattle.sys_config.specs.Config.{document_of, numbers_of, rows_of, config_in, config_of}
use Rattle.sys_objects.specs.Condition.{IsConfig, IsTerminal, IsVolume, IsPrinter, IsAudit, IsGuest, NamesObjects}
use Rattle.sys_config.specs.Written.{version_of, with_any, number, written_terminal, written_volume, written_printer, written_audit, audit_value, written_guest, items_by, lists, written_config}
use Rattle.sys_config.proofs.ReadAgain.{terminal_back, volume_back, printer_back, audit_back, entries_back, guest_back}
use Rattle.sys_objects.proofs.JudgedAgain.{judged_back, are_apart}

-- what is at the keys of the whole table
record Looked : Type 0 where
  guest : Option Data
  printer : Option Data
  slice : Option Data
  terminal : Option Data
  version : Option Data
  volume : Option Data
  audit : Option Data
  known : Bool

abbrev looked : Members → Looked
looked t = record {
  guest = get_member (codes "guest") t;
  printer = get_member (codes "printer") t;
  slice = get_member (codes "slice") t;
  terminal = get_member (codes "terminal") t;
  version = get_member (codes "version") t;
  volume = get_member (codes "volume") t;
  audit = get_member (codes "audit") t;
  known = are_known all_keys t;
}

all_found : (g p s t n v : Data) (audit : Option Data)
    → looked (with_any (codes "audit") audit (member (codes "guest") g (member (codes "printer") p (member (codes "slice") s (member (codes "terminal") t (member (codes "version") n (member (codes "volume") v no_members)))))))
    ≡ record { guest = Some g; printer = Some p; slice = Some s; terminal = Some t; version = Some n; volume = Some v; audit = audit; known = true }
all_found g p s t n v None = refl
all_found g p s t n v (Some a) = refl

abbrev found_in : Config → Looked
found_in c = record {
  guest = Some (array (items_by (written_guest c) c.guests));
  printer = Some (array (items_by written_printer c.printers));
  slice = Some (number c.slice);
  terminal = Some (array (items_by written_terminal c.terminals));
  version = Some (number 2);
  volume = Some (array (items_by written_volume c.volumes));
  audit = audit_value c.audit;
  known = true;
}

stands : (c : Config) → looked (written_config c) ≡ found_in c
unfolding written_config lists
stands c = all_found _ _ _ _ _ _ (audit_value c.audit)

are_tables-items_by : {A : Type 0} (f : A → Members) (xs : List A) → are_tables (items_by f xs) ≡ true
are_tables-items_by f [] = refl
are_tables-items_by f (x ∷ xs) = are_tables-items_by f xs

count_of-items_by : {A : Type 0} (f : A → Members) (xs : List A) → count_of (items_by f xs) ≡ length xs
count_of-items_by f [] = refl
count_of-items_by f (x ∷ xs) = ap suc (count_of-items_by f xs)

tables_found : {A : Type 0} (key : List ℕ) (t : Members) (most : ℕ) (f : A → Members) (xs : List A) → get_member key t ≡ Some (array (items_by f xs)) → length xs ≤ most
    → tables_at key most t ≡ Some (items_by f xs)
unfolding tables_at
tables_found key t most f xs at few = rw (at, are_tables-items_by f xs, count_of-items_by f xs, le-leb (length xs) most few)

abbrev limits_of : Config → Limits
limits_of c = record { quantum = None; slice = c.slice }

numbers_back : (c : Config) → IsConfig c → (t : Members) → looked t ≡ found_in c → numbers_of t ≡ Ok (limits_of c)
unfolding numbers_of top_of top_of_two
numbers_back c met t e =
    let version : get_member (codes "version") t ≡ Some (number 2) = ap (λ (l : Looked). l.version) e in
    let known : are_known all_keys t ≡ true = ap (λ (l : Looked). l.known) e in
    let slice : get_member (codes "slice") t ≡ Some (number c.slice) = ap (λ (l : Looked). l.slice) e in
    rw (version, known, slice, le-leb 1 c.slice met.some_slice, le-leb c.slice 100000 met.few_slice)

table_back : (a : Option Audit) → if_some as_table (audit_value a) ≡ Some (option_map written_audit a)
table_back None = refl
table_back (Some a) = refl

audit_back_any : (a : Option Audit) → IfSome a IsAudit → if_some (audit_row_in 255) (option_map written_audit a) ≡ Some a
audit_back_any None is = refl
audit_back_any (Some a) is = rw (audit_back a is)

rows_back : (c : Config) → IsConfig c → (t : Members) → looked t ≡ found_in c → rows_of (limits_of c) (option_map written_audit c.audit) t ≡ Ok c
unfolding rows_of
rows_back c met t e =
    let apart = are_apart c met in
    let terminal : tables_at (codes "terminal") 32 t ≡ Some (items_by written_terminal c.terminals) = tables_found (codes "terminal") t 32 written_terminal c.terminals (ap (λ (l : Looked). l.terminal) e) met.few_terminals in
    let volume : tables_at (codes "volume") 16 t ≡ Some (items_by written_volume c.volumes) = tables_found (codes "volume") t 16 written_volume c.volumes (ap (λ (l : Looked). l.volume) e) met.few_volumes in
    let printer : tables_at (codes "printer") 32 t ≡ Some (items_by written_printer c.printers) = tables_found (codes "printer") t 32 written_printer c.printers (ap (λ (l : Looked). l.printer) e) met.few_printers in
    let guest : tables_at (codes "guest") 16 t ≡ Some (items_by (written_guest c) c.guests) = tables_found (codes "guest") t 16 (written_guest c) c.guests (ap (λ (l : Looked). l.guest) e) met.few_guests in
    let terminals : entries_from 6 (terminal_row_in 255) [] (items_by written_terminal c.terminals) ≡ Ok c.terminals = entries_back IsTerminal 6 (terminal_row_in 255) written_terminal terminal_back c.terminals [] met.terminals in
    let volumes : entries_from 7 (volume_row_in 255) [] (items_by written_volume c.volumes) ≡ Ok c.volumes = entries_back IsVolume 7 (volume_row_in 255) written_volume volume_back c.volumes [] met.volumes in
    let printers : entries_from 8 (printer_row_in 255) [] (items_by written_printer c.printers) ≡ Ok c.printers = entries_back IsPrinter 8 (printer_row_in 255) written_printer printer_back c.printers [] met.printers in
    let guests : entries_from 9 (guest_row_in 255 None c.terminals c.volumes c.printers) [] (items_by (written_guest c) c.guests) ≡ Ok c.guests =
    entries_back (λ (g : GuestRow). IsGuest g × NamesObjects c g) 9 (guest_row_in 255 None c.terminals c.volumes c.printers) (written_guest c) (guest_back c met apart) c.guests [] (λ k d within. (met.guests k d within, met.numbers k d within)) in
    rw (terminal, volume, printer, guest, terminals, volumes, printers, guests, audit_back_any c.audit met.audit)

table_read : (c : Config) → IsConfig c → (t : Members) → looked t ≡ found_in c → config_in t ≡ Ok c
unfolding config_in
table_read c met t e =
    let audit : audit_table t ≡ Some (option_map written_audit c.audit) = rw (ap (λ (l : Looked). l.audit) e) (table_back c.audit) in
    rw (audit, numbers_back c met t e, rows_back c met t e, judged_back c met)

pub written_back : (c : Config) → IsConfig c → config_in (written_config c) ≡ Ok c
written_back c met = table_read c met (written_config c) (stands c)

pub document_back : (c : Config) (bytes : List ℕ) (t : Members) → t ≡ written_config c → IsUtf8 bytes → (members_depth t ≤ 80 → parse_document bytes ≡ Some t) → members_depth (written_config c) ≤ 80 → document_of bytes ≡ Some (written_config c)
document_back c bytes t same utf8 back shallow =
    let low : members_depth t ≤ 80 = rw same shallow in
    rw (is_utf8-from_IsUtf8 bytes utf8, back low, same)

pub config_back : (c : Config) → IsConfig c → (bytes : List ℕ) → document_of bytes ≡ Some (written_config c) → config_of bytes ≡ Ok c
unfolding config_of
config_back c met bytes e = rw e (written_back c met)

pub version_back : (c : Config) (bytes : List ℕ) → document_of bytes ≡ Some (written_config c) → version_of bytes ≡ Some (pos 2)
version_back c bytes e =
    let version : get_member (codes "version") (written_config c) ≡ Some (number 2) = ap (λ (l : Looked). l.version) (stands c) in
    rw (e, version)
