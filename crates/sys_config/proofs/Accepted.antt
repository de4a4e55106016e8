-- A configuration that is accepted satisfies the condition.
use Rattle.std.proofs.Common.{◌≡◌, ◌≤◌, ℕ, ℤ, Bool, true, false, ◌&&◌, nat_le, List, [], length, codes, if◌then◌else◌, Option, Some, None, Result, Ok, Err, option_map, unwrap_or, IfSome, IfOk, All, get_or, refl, arith, ◌+◌}
use Rattle.std.proofs.lemmas.Bool.{leb-true}
use Rattle.toml.specs.Data.{Data, Items, no_items, Members, get_member, as_array}
use Rattle.toml.specs.Text.{are_tables}
use Rattle.sys_objects.specs.Faults.{IsConfigAnswer, by_rule, unless_at}
use Rattle.sys_config.specs.Answers.{entries_from}
use Rattle.sys_config.specs.Reads.{in_range, if_any, if_some}
use Rattle.sys_config.specs.Entries.{terminal_row_in, volume_row_in, printer_row_in, audit_row_in}
use Rattle.sys_config.specs.Guests.{guest_row_in}
use Rattle.sys_config.specs.Top.{top_of, audit_table, is_two, quantum_of, top_level, most_guests, tables_at, tables_in, count_of}
use Rattle.sys_objects.specs.Rules.{first_broken, is_new, lines_of, objects_of}
use Rattle.sys_objects.specs.Judged.{validated}
use Rattle.sys_config.specs.Config.{document_of, numbers_of, rows_of, config_in, config_of}
use Rattle.sys_objects.specs.Condition.{IsConfig, IsTerminal, IsVolume, IsPrinter, IsGuest, IsAudit}
use Rattle.sys_objects.specs.declared.errors.ConfigError.{ConfigError}
use Rattle.sys_config.specs.declared.top.Top.{Top}
use Rattle.sys_config.specs.declared.numbers.Limits.{Limits}
use Rattle.sys_objects.specs.declared.records.Config.{Config}
use Rattle.sys_objects.specs.declared.records.Audit.{Audit}
use Rattle.sys_config.proofs.Each.{each, anything, maybe, each_ok, by, unless, AreRead, entries}
use Rattle.sys_config.proofs.RowFacts.{Within, in_range_is, terminal_is, volume_is, printer_is, audit_is, guest_is, IsQuantum}
use Rattle.sys_objects.proofs.Firsts.{pages_hold}
use Rattle.sys_objects.proofs.Judged.{IsUnbroken, audit_holds, console_holds, mounts_hold, printer_holds, same_drive, same_line, same_name, names_apart, lines_apart, drives_apart, consoles_apart, all_held, all_audited, pages_fit, names_objects}

record AreLimits (n : Limits) : Type 0 where
  quantum : IsQuantum n.quantum
  slice : Within 1 100000 n.slice

read_quantum : (two : Bool) (q : Option ℤ) → IfSome (quantum_of two q) IsQuantum
read_quantum true q = tt
read_quantum false None = tt
read_quantum false (Some z) = wrapped (in_range 1 100000 z) (in_range_is 1 100000 z)
  where
    wrapped : (o : Option ℕ) → IfSome o (Within 1 100000) → IfSome (option_map Some o) IsQuantum
    wrapped None h = tt
    wrapped (Some q) h = h

most_is : (quantum : Option ℕ) → IsQuantum quantum → unwrap_or quantum 100000 ≤ 100000
most_is None is = omega arith
most_is (Some q) is = is.1

limits_are : (t : Members) → IfOk (numbers_of t) AreLimits
unfolding numbers_of
limits_are t =
    each_ok (λ (top : Top). Unit {0}) AreLimits (by_rule 1 0 (top_of t)) _ (by (λ (top : Top). Unit {0}) 1 0 (top_of t) (anything (top_of t))) (λ top _.
    each_ok (λ (two : Bool). Unit {0}) AreLimits (by_rule 2 0 (is_two top.version)) _ (by (λ (two : Bool). Unit {0}) 2 0 (is_two top.version) (anything (is_two top.version))) (λ two _.
    each_ok IsQuantum AreLimits (by_rule 3 0 (quantum_of two top.quantum)) _ (by IsQuantum 3 0 (quantum_of two top.quantum) (read_quantum two top.quantum)) (λ quantum is.
    each_ok (Within 1 (unwrap_or quantum 100000)) AreLimits (by_rule 4 0 (in_range 1 (unwrap_or quantum 100000) top.slice)) _
    (by (Within 1 (unwrap_or quantum 100000)) 4 0 (in_range 1 (unwrap_or quantum 100000) top.slice) (in_range_is 1 (unwrap_or quantum 100000) top.slice)) (λ slice within.
    record { quantum = is; slice = (within.0, omega (arith, within.1, most_is quantum is)) }))))

few_tables : (most : ℕ) (d : Data) → IfSome (tables_in most d) (λ ds. count_of ds ≤ most)
few_tables most d = each (λ (ds : Items). Unit {0}) (λ (ds : Items). count_of ds ≤ most) (as_array d) _ (anything (as_array d)) (λ ds _. by_test ds (are_tables ds) (nat_le (count_of ds) most) refl)
  where
    by_test : (ds : Items) (x y : Bool) → nat_le (count_of ds) most ≡ y → IfSome (if x && y then Some ds else None) (λ ds. count_of ds ≤ most)
    by_test ds true true e = leb-true (count_of ds) most e
    by_test ds true false e = tt
    by_test ds false y e = tt

few_at : (key : List ℕ) (most : ℕ) (t : Members) → IfSome (tables_at key most t) (λ ds. count_of ds ≤ most)
unfolding tables_at
few_at key most t = listed (if_any (tables_in most) key t) (maybe (λ (ds : Items). count_of ds ≤ most) (tables_in most) (few_tables most) (get_member key t))
  where
    listed : (o : Option (Option Items)) → IfSome o (λ o. IfSome o (λ ds. count_of ds ≤ most)) → IfSome (option_map (λ ds. unwrap_or ds no_items) o) (λ ds. count_of ds ≤ most)
    listed None h = tt
    listed (Some None) h = omega arith
    listed (Some (Some ds)) h = h

audit_read : (top : ℕ) (table : Option Members) → IfSome (if_some (audit_row_in top) table) (λ a. IfSome a IsAudit)
audit_read top None = tt
audit_read top (Some t) = wrapped (audit_row_in top t) (audit_is top t)
  where
    wrapped : (o : Option Audit) → IfSome o IsAudit → IfSome (option_map Some o) (λ a. IfSome a IsAudit)
    wrapped None h = tt
    wrapped (Some a) h = h

record AreRows (n : Limits) (c : Config) : Type 0 where
  slice : c.slice ≡ n.slice
  few_terminals : length c.terminals ≤ 32
  few_volumes : length c.volumes ≤ 16
  few_printers : length c.printers ≤ 32
  few_guests : length c.guests ≤ 16
  terminals : All IsTerminal c.terminals
  volumes : All IsVolume c.volumes
  printers : All IsPrinter c.printers
  guests : All IsGuest c.guests
  audit : IfSome c.audit IsAudit

no_more : (quantum : Option ℕ) → most_guests quantum ≤ 16
no_more None = omega arith
no_more (Some q) = omega arith

none : {A : Type 0} (P : A → Type 0) → All P []
none P k d within = absurd (omega arith)

rows_are : (n : Limits) (audit : Option Members) (t : Members) → AreLimits n → IfOk (rows_of n audit t) (AreRows n)
unfolding rows_of
rows_are n audit t are =
    let top = top_level n.quantum in
    each_ok (λ (ds : Items). count_of ds ≤ 32) (AreRows n) (by_rule 5 0 (tables_at (codes "terminal") 32 t)) _ (by (λ (ds : Items). count_of ds ≤ 32) 5 0 _ (few_at (codes "terminal") 32 t)) (λ terminal few_t.
    each_ok (λ (ds : Items). count_of ds ≤ 16) (AreRows n) (by_rule 5 1 (tables_at (codes "volume") 16 t)) _ (by (λ (ds : Items). count_of ds ≤ 16) 5 1 _ (few_at (codes "volume") 16 t)) (λ volume few_v.
    each_ok (λ (ds : Items). count_of ds ≤ 32) (AreRows n) (by_rule 5 2 (tables_at (codes "printer") 32 t)) _ (by (λ (ds : Items). count_of ds ≤ 32) 5 2 _ (few_at (codes "printer") 32 t)) (λ printer few_p.
    each_ok (λ (ds : Items). count_of ds ≤ most_guests n.quantum) (AreRows n) (by_rule 5 3 (tables_at (codes "guest") (most_guests n.quantum) t)) _
    (by (λ (ds : Items). count_of ds ≤ most_guests n.quantum) 5 3 _ (few_at (codes "guest") (most_guests n.quantum) t)) (λ guest few_g.
    each_ok (AreRead IsTerminal (0 + count_of terminal)) (AreRows n) (entries_from 6 (terminal_row_in top) [] terminal) _ (entries IsTerminal 6 (terminal_row_in top) (terminal_is top) terminal [] (none IsTerminal)) (λ terminals ts.
    each_ok (AreRead IsVolume (0 + count_of volume)) (AreRows n) (entries_from 7 (volume_row_in top) [] volume) _ (entries IsVolume 7 (volume_row_in top) (volume_is top) volume [] (none IsVolume)) (λ volumes vs.
    each_ok (AreRead IsPrinter (0 + count_of printer)) (AreRows n) (entries_from 8 (printer_row_in top) [] printer) _ (entries IsPrinter 8 (printer_row_in top) (printer_is top) printer [] (none IsPrinter)) (λ printers ps.
    each_ok (AreRead IsGuest (0 + count_of guest)) (AreRows n) (entries_from 9 (guest_row_in top n.quantum terminals volumes printers) [] guest) _
    (entries IsGuest 9 (guest_row_in top n.quantum terminals volumes printers) (λ t. guest_is top n.quantum terminals volumes printers t are.quantum) guest [] (none IsGuest)) (λ guests gs.
    each_ok (λ (a : Option Audit). IfSome a IsAudit) (AreRows n) (by_rule 10 0 (if_some (audit_row_in top) audit)) _ (by (λ (a : Option Audit). IfSome a IsAudit) 10 0 _ (audit_read top audit)) (λ read is_audit.
    record {
      slice = refl;
      few_terminals = omega (arith, ts.count, few_t);
      few_volumes = omega (arith, vs.count, few_v);
      few_printers = omega (arith, ps.count, few_p);
      few_guests = omega (arith, gs.count, few_g, no_more n.quantum);
      terminals = ts.each;
      volumes = vs.each;
      printers = ps.each;
      guests = gs.each;
      audit = is_audit;
    })))))))))

unbroken : (c : Config) → IfOk (validated c) (λ _. IsUnbroken c)
unfolding validated
unbroken c =
    let P = λ (u : Unit {0}). IsUnbroken c in
    each_ok (λ _. first_broken (is_new same_name) [] (objects_of c) ≡ None) P (unless_at 11 (first_broken (is_new same_name) [] (objects_of c))) _ (unless 11 (first_broken (is_new same_name) [] (objects_of c))) (λ _ name.
    each_ok (λ _. first_broken (is_new same_line) [] (lines_of c) ≡ None) P (unless_at 12 (first_broken (is_new same_line) [] (lines_of c))) _ (unless 12 (first_broken (is_new same_line) [] (lines_of c))) (λ _ line.
    each_ok (λ _. first_broken (is_new same_drive) [] c.volumes ≡ None) P (unless_at 13 (first_broken (is_new same_drive) [] c.volumes)) _ (unless 13 (first_broken (is_new same_drive) [] c.volumes)) (λ _ drive.
    each_ok (λ _. first_broken (printer_holds c.printers) [] c.guests ≡ None) P (unless_at 14 (first_broken (printer_holds c.printers) [] c.guests)) _ (unless 14 (first_broken (printer_holds c.printers) [] c.guests)) (λ _ printer.
    each_ok (λ _. first_broken (console_holds c.terminals) [] c.guests ≡ None) P (unless_at 15 (first_broken (console_holds c.terminals) [] c.guests)) _ (unless 15 (first_broken (console_holds c.terminals) [] c.guests)) (λ _ console.
    each_ok (λ _. first_broken (mounts_hold c.volumes) [] c.guests ≡ None) P (unless_at 16 (first_broken (mounts_hold c.volumes) [] c.guests)) _ (unless 16 (first_broken (mounts_hold c.volumes) [] c.guests)) (λ _ mount.
    each_ok (λ _. first_broken (audit_holds c.audit) [] (objects_of c) ≡ None) P (unless_at 17 (first_broken (audit_holds c.audit) [] (objects_of c))) _ (unless 17 (first_broken (audit_holds c.audit) [] (objects_of c))) (λ _ audit.
    last (first_broken pages_hold [] c.guests) (λ pages. record { name = name; line = line; drive = drive; printer = printer; console = console; mount = mount; audit = audit; pages = pages }))))))))
  where
    last : (o : Option ℕ) → (o ≡ None → IsUnbroken c) → IfOk (unless_at 18 o) (λ _. IsUnbroken c)
    last None h = h refl
    last (Some place) h = tt

met : (n : Limits) (c : Config) → AreLimits n → AreRows n c → IsUnbroken c → IsConfig c
met n c are rows is = record {
  some_slice = rw rows.slice are.slice.0;
  few_slice = rw rows.slice are.slice.1;
  few_terminals = rows.few_terminals;
  few_volumes = rows.few_volumes;
  few_printers = rows.few_printers;
  few_guests = rows.few_guests;
  terminals = rows.terminals;
  volumes = rows.volumes;
  printers = rows.printers;
  guests = rows.guests;
  audit = rows.audit;
  names = names_apart c is;
  lines = lines_apart c is;
  drives = drives_apart c is;
  consoles = consoles_apart c is;
  held = all_held c is;
  numbers = λ k d within. names_objects c (get_or c.guests k d) (all_held c is k d within);
  audited = all_audited c is;
  pages = pages_fit c is;
}

pub table_accepted : (t : Members) → IfOk (config_in t) IsConfig
unfolding config_in
table_accepted t =
    each_ok (λ (a : Option Members). Unit {0}) IsConfig (by_rule 1 0 (audit_table t)) _ (by (λ (a : Option Members). Unit {0}) 1 0 (audit_table t) (anything (audit_table t))) (λ audit _.
    each_ok AreLimits IsConfig (numbers_of t) _ (limits_are t) (λ n are.
    each_ok (AreRows n) IsConfig (rows_of n audit t) _ (rows_are n audit t are) (λ c rows.
    each_ok (λ (u : Unit {0}). IsUnbroken c) IsConfig (validated c) _ (unbroken c) (λ _ is. met n c are rows is))))

pub accepted : (bytes : List ℕ) → IfOk (config_of bytes) IsConfig
unfolding config_of
accepted bytes =
    each_ok (λ (t : Members). Unit {0}) IsConfig (by_rule 0 0 (document_of bytes)) config_in (by (λ (t : Members). Unit {0}) 0 0 (document_of bytes) (anything (document_of bytes))) (λ t _. table_accepted t)

pub accepted_is : (bytes : List ℕ) (c : Config) → config_of bytes ≡ Ok c → IsConfig c
accepted_is bytes c e = rw e at (accepted bytes)

pub read_is : (r : Result Config ConfigError) (t : Members) → IsConfigAnswer (λ c. c) r (config_in t) → IfOk r IsConfig
read_is (Ok c) t e = rw e at (table_accepted t)
read_is (Err e) t h = tt
