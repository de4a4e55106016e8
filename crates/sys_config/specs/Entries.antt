-- An entry of the terminals, volumes and printers, and the audit: where a table has exactly the keys that it is to
-- have, of their forms and in their ranges.
use Rattle.std.specs.Prelude.{ℕ, List, [], ◌∷◌, codes, ◌&&◌, nat_le, if◌then◌else◌, Option, Some, None}
use Rattle.toml.specs.Data.{Members}
use Rattle.vv_base.specs.Names.{is_object_name, tested}
use Rattle.vv_class.specs.declared.class.AccessClass.{AccessClass}
use Rattle.vv_class.specs.Text.{class_in}
use Rattle.sys_config.specs.Reads.{◌>>=◌, bounded_integer_at, text_at, are_known}
use Rattle.sys_config.specs.declared.entries.NamedLine.{NamedLine}
use Rattle.sys_objects.specs.declared.records.Terminal.{Terminal}
use Rattle.sys_objects.specs.declared.records.VolumeRow.{VolumeRow}
use Rattle.sys_objects.specs.declared.records.PrinterRow.{PrinterRow}
use Rattle.sys_objects.specs.declared.records.Audit.{Audit}

-- a name of an object
abbrev pub name_in : List ℕ → Option (List ℕ)
name_in text = tested is_object_name text

abbrev pub name_at : List ℕ → Members → Option (List ℕ)
name_at key t = text_at key t >>= name_in

-- a class with levels up to `top`
abbrev pub low_enough : ℕ → AccessClass → Option AccessClass
low_enough top c = if nat_le c.secrecy top && nat_le c.integrity top then Some c else None

abbrev pub class_at : ℕ → Members → Option AccessClass
class_at top t = text_at (codes "class") t >>= class_in >>= low_enough top

-- a line, 0 to 31
abbrev pub line_number_at : List ℕ → Members → Option ℕ
line_number_at key t = bounded_integer_at key 0 31 t

-- an entry with a name, a line and a class
unfoldable pub named_line_of : ℕ → Members → Option NamedLine
named_line_of top t =
    if are_known (codes "name" ∷ codes "line" ∷ codes "class" ∷ []) t then
    (name_at (codes "name") t >>= λ name. line_number_at (codes "line") t >>= λ line. class_at top t >>= λ class.
    Some (record { name = name; line = line; class = class }))
    else None

abbrev pub terminal_row_in : ℕ → Members → Option Terminal
terminal_row_in top t = named_line_of top t >>= λ e. Some (record { name = e.name; line = e.line; class = e.class })

abbrev pub printer_row_in : ℕ → Members → Option PrinterRow
printer_row_in top t = named_line_of top t >>= λ e. Some (record { name = e.name; line = e.line; class = e.class })

-- a drive is 0 to 15, and a volume has 1 to 2,048 blocks
unfoldable pub volume_row_in : ℕ → Members → Option VolumeRow
volume_row_in top t =
    if are_known (codes "name" ∷ codes "drive" ∷ codes "blocks" ∷ codes "class" ∷ []) t then
    (name_at (codes "name") t >>= λ name. bounded_integer_at (codes "drive") 0 15 t >>= λ drive. bounded_integer_at (codes "blocks") 1 2048 t >>= λ blocks.
    class_at top t >>= λ class. Some (record { name = name; drive = drive; blocks = blocks; class = class }))
    else None

unfoldable pub audit_row_in : ℕ → Members → Option Audit
audit_row_in top t =
    if are_known (codes "line" ∷ codes "class" ∷ []) t then
    (line_number_at (codes "line") t >>= λ line. class_at top t >>= λ class. Some (record { line = line; class = class }))
    else None
