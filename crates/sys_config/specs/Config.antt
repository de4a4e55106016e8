-- What the bytes of a configuration stand for. The rules are tested in the order of their numbers; the first that fails
-- is named, with the first place at which it fails, counted from 0:
--
--   0      the bytes aren't UTF-8 or no TOML
--   1      a key at the top is missing, unknown or of another form; `quantum` occurs in version 1 alone
--   2      the version isn't 1 or 2
--   3      in version 1 the quantum isn't 1 to 100,000
--   4      the slice isn't 1 to the quantum, or in version 2 1 to 100,000
--   5      terminal (0), volume (1), printer (2), guest (3) isn't an array of at most 32, 16, 32 and 8 (version 2: 16) tables
--   6 to 9 an entry of terminal, volume, printer, guest has a missing or unknown key, a bad form or range, a unit twice, or
--          in version 1 a level above 15
--   10     the audit likewise
--   11     a name occurs earlier, in the order terminals, volumes, printers, guests
--   12     a line occurs earlier, in the order terminals, printers, guests' dumps, audit
--   13     a drive occurs earlier
--   14     a guest's printer isn't one into whose class the guest flows
--   15     a guest's console isn't a terminal of its class, or is that of an earlier guest
--   16     a mount's volume isn't one that flows into the guest, or is written with another class
--   17     with an audit, an object's class does not flow into the audit's, in the order of 11
--   18     the pages of the guests up to this one are more than 16,384
use Rattle.std.specs.Prelude.{ℕ, List, [], codes, if◌then◌else◌, Option, Some, None, unwrap_or, Result, Ok}
use Rattle.std.specs.Str.{is_utf8}
use Rattle.toml.specs.Data.{Members}
use Rattle.toml.specs.Parse.{parse_document}
use Rattle.sys_objects.specs.Faults.{◌>>=◌, by_rule}
use Rattle.sys_config.specs.Answers.{entries_from}
use Rattle.sys_config.specs.Reads.{if_some, in_range}
use Rattle.sys_config.specs.Entries.{terminal_row_in, volume_row_in, printer_row_in, audit_row_in}
use Rattle.sys_config.specs.Guests.{guest_row_in}
use Rattle.sys_config.specs.Top.{top_of, audit_table, is_two, quantum_of, top_level, most_guests, tables_at}
use Rattle.sys_objects.specs.Judged.{validated}
use Rattle.sys_objects.specs.declared.errors.ConfigFault.{ConfigFault}
use Rattle.sys_config.specs.declared.numbers.Limits.{Limits}
use Rattle.sys_objects.specs.declared.records.Config.{Config}

-- the table that the bytes are, by TOML 1.1
abbrev pub document_of : List ℕ → Option Members
document_of bytes = if is_utf8 bytes then parse_document bytes else None

unfoldable pub numbers_of : Members → Result Limits ConfigFault
numbers_of t =
    by_rule 1 0 (top_of t) >>= λ top.
    by_rule 2 0 (is_two top.version) >>= λ two.
    by_rule 3 0 (quantum_of two top.quantum) >>= λ quantum.
    by_rule 4 0 (in_range 1 (unwrap_or quantum 100000) top.slice) >>= λ slice.
    Ok (record { quantum = quantum; slice = slice })

unfoldable pub rows_of : Limits → Option Members → Members → Result Config ConfigFault
rows_of n audit t =
    by_rule 5 0 (tables_at (codes "terminal") 32 t) >>= λ terminal.
    by_rule 5 1 (tables_at (codes "volume") 16 t) >>= λ volume.
    by_rule 5 2 (tables_at (codes "printer") 32 t) >>= λ printer.
    by_rule 5 3 (tables_at (codes "guest") (most_guests n.quantum) t) >>= λ guest.
    entries_from 6 (terminal_row_in (top_level n.quantum)) [] terminal >>= λ terminals.
    entries_from 7 (volume_row_in (top_level n.quantum)) [] volume >>= λ volumes.
    entries_from 8 (printer_row_in (top_level n.quantum)) [] printer >>= λ printers.
    entries_from 9 (guest_row_in (top_level n.quantum) n.quantum terminals volumes printers) [] guest >>= λ guests.
    by_rule 10 0 (if_some (audit_row_in (top_level n.quantum)) audit) >>= λ read.
    Ok (record { slice = n.slice; audit = read; terminals = terminals; volumes = volumes; printers = printers; guests = guests })

unfoldable pub config_in : Members → Result Config ConfigFault
config_in t =
    by_rule 1 0 (audit_table t) >>= λ audit.
    numbers_of t >>= λ numbers.
    rows_of numbers audit t >>= λ c.
    validated c >>= λ _.
    Ok c

-- `Config`
unfoldable pub config_of : List ℕ → Result Config ConfigFault
config_of bytes = by_rule 0 0 (document_of bytes) >>= config_in
