-- Which key of a configuration breaks a rule, and its value.
use Rattle.std.specs.Prelude.{ℕ, ◌-◌, ℤ, pos, List, [], ◌∷◌, ◌++◌, ◌==◌, ◌||◌, codes, map, not, Bool, true, false, nat_le, int_lt, unsigned_abs, decimal, bytes_eq, ◌&&◌, if◌then◌else◌, Option, Some, None, is_some, option_and_then, unwrap_or, Result, Ok}
use Rattle.std.specs.Borrow.{Bor}
use Rattle.std.specs.Option.{option_map_or}
use Rattle.std.specs.List.{list_any}
use Rattle.toml.specs.Data.{Data, string, integer, float, boolean, datetime, array, table, Items, no_items, item, Members, no_members, member, get_member, get_item, as_integer, as_str, as_bool, as_table, as_array}
use Rattle.vv_base.specs.Names.{is_object_name, is_file_name}
use Rattle.vv_class.specs.Text.{class_in}
use Rattle.sys_objects.specs.declared.errors.ConfigFault.{ConfigFault}
use Rattle.sys_config.specs.Entries.{low_enough}
use Rattle.sys_config.specs.Guests.{modify_in}
use Rattle.sys_config.specs.Reads.{integer_in, integer_at}
use Rattle.sys_config.specs.Top.{count_of, is_integer}
use Rattle.vvmm_files.specs.declared.status.Status.{Status}
use Rattle.vvmm_files.specs.declared.status.Status.TheVariants.{Config}
use Rattle.vv_edge.specs.Learning.{shown_front}
use Rattle.vv_edge.specs.declared.broken.Form.{Form}
use Rattle.vv_edge.specs.declared.broken.Form.TheVariants.{Name, Class, File, Truth, Modify, Whole, Number, Table, Open}

-- the bytes of a text; none where the value is no text
abbrev pub text_in : Data → List ℕ
text_in (string text) = text
text_in d = []

abbrev pub is_class : ℕ → List ℕ → Bool
is_class top text = is_some (option_and_then (low_enough top) (class_in text))

abbrev pub is_modify : List ℕ → Bool
is_modify text = is_some (modify_in text)

abbrev pub is_ranged : ℕ → ℕ → Data → Bool
is_ranged low high d = is_some (integer_in low high d)

-- whether a value is as it is to be, with levels up to `top`
abbrev pub is_fit : ℕ → Form → Data → Bool
is_fit top Name d = is_object_name (text_in d)
is_fit top Class d = is_class top (text_in d)
is_fit top File d = is_file_name (text_in d)
is_fit top Truth d = is_some (as_bool d)
is_fit top Modify d = is_modify (text_in d)
is_fit top (Whole low high) d = is_ranged low high d
is_fit top Number d = is_some (as_integer d)
is_fit top Table d = is_some (as_table d)
is_fit top Open d = true

-- what is at a key that must be there, or may be
abbrev pub member_fits : Bool → ℕ → Form → Option Data → Bool
member_fits needed top form None = not needed
member_fits needed top form (Some d) = is_fit top form d

-- keys, and what their values are to be
abbrev pub Rows : Type 0
Rows = List (List ℕ × Form)

abbrev pub rows_seen : List (Bor (List ℕ) × Form) → Rows
rows_seen rows = map (λ (row : Bor (List ℕ) × Form). (row.0.now, row.1)) rows

-- the first key whose value isn't as it is to be
abbrev pub first_bad_key : Bool → ℕ → Members → Rows → Option (List ℕ)
first_bad_key needed top t [] = None
first_bad_key needed top t (row ∷ rows) = if member_fits needed top row.1 (get_member row.0 t) then first_bad_key needed top t rows else Some row.0

abbrev pub is_known_in : List ℕ → Rows → Bool
is_known_in key rows = list_any (λ (row : List ℕ × Form). bytes_eq key row.0) rows

-- the first key of a table that no row has
abbrev pub first_unknown : Rows → Rows → Members → Option (List ℕ)
first_unknown needed more no_members = None
first_unknown needed more (member key d ms) = if is_known_in key needed || is_known_in key more then first_unknown needed more ms else Some key

abbrev pub or_else : Option (List ℕ) → Option (List ℕ) → Option (List ℕ)
or_else (Some key) other = Some key
or_else None other = other

-- the first key of a table that is unknown, or else that misfits
abbrev pub misfit : ℕ → Rows → Rows → Members → Option (List ℕ)
misfit top needed more t = or_else (first_unknown needed more t) (or_else (first_bad_key true top t needed) (first_bad_key false top t more))

abbrev pub guest_rows : Rows
guest_rows =
    (codes "name", Name) ∷ (codes "class", Class) ∷ (codes "pages", Whole 64 2048) ∷ (codes "image", File) ∷ (codes "load", Whole 0 4294967295)
    ∷ (codes "start", Whole 0 4294967295) ∷ (codes "autostart", Truth) ∷ []

abbrev pub top_rows : Rows
top_rows = (codes "version", Number) ∷ (codes "slice", Number) ∷ []

-- the keys that a rule's tables must have, in version 2 or in version 1
abbrev pub needed_by : Bool → ℕ → Rows
needed_by two rule =
    if rule == 1 then (if two then top_rows else (codes "quantum", Number) ∷ top_rows)
    else if rule == 7 then (codes "name", Name) ∷ (codes "drive", Whole 0 15) ∷ (codes "blocks", Whole 1 2048) ∷ (codes "class", Class) ∷ []
    else if rule == 9 then (if two then (codes "quantum", Whole 1 100000) ∷ guest_rows else guest_rows)
    else if rule == 10 then (codes "line", Whole 0 31) ∷ (codes "class", Class) ∷ []
    else (codes "name", Name) ∷ (codes "line", Whole 0 31) ∷ (codes "class", Class) ∷ []

-- the keys that they may have besides
abbrev pub more_by : ℕ → Rows
more_by rule =
    if rule == 1 then (codes "audit", Table) ∷ (codes "terminal", Open) ∷ (codes "volume", Open) ∷ (codes "printer", Open) ∷ (codes "guest", Open) ∷ []
    else if rule == 9 then (codes "console", Name) ∷ (codes "printer", Name) ∷ (codes "dump", Whole 0 31) ∷ (codes "modify", Modify) ∷ (codes "mount", Open) ∷ []
    else []

-- the lists of tables among which a rule's places are counted
abbrev pub lists_of : ℕ → List (List ℕ)
lists_of rule =
    if rule == 6 then codes "terminal" ∷ []
    else if (rule == 7) || (rule == 13) then codes "volume" ∷ []
    else if rule == 8 then codes "printer" ∷ []
    else if (rule == 11) || (rule == 17) then codes "terminal" ∷ codes "volume" ∷ codes "printer" ∷ codes "guest" ∷ []
    else if rule == 12 then codes "terminal" ∷ codes "printer" ∷ []
    else codes "guest" ∷ []

-- the key that a rule names; of a guest whose other keys fit it is the mounts
abbrev pub named_key : ℕ → ℕ → List ℕ
named_key rule place =
    if rule == 2 then codes "version"
    else if rule == 3 then codes "quantum"
    else if rule == 4 then codes "slice"
    else if rule == 5 then (if place == 0 then codes "terminal" else if place == 1 then codes "volume" else if place == 2 then codes "printer" else codes "guest")
    else if (rule == 9) || (rule == 16) then codes "mount"
    else if rule == 11 then codes "name"
    else if rule == 12 then codes "line"
    else if rule == 13 then codes "drive"
    else if rule == 14 then codes "printer"
    else if rule == 15 then codes "console"
    else if rule == 17 then codes "class"
    else if rule == 18 then codes "pages"
    else []

-- the key of a table that breaks a rule: by the rules 1 and 6 to 10 the first that misfits
abbrev pub key_of : Bool → ConfigFault → Members → List ℕ
key_of two fault t =
    if (fault.rule == 1) || (nat_le 6 fault.rule && nat_le fault.rule 10) then
    unwrap_or (misfit (if two then 255 else 15) (needed_by two fault.rule) (more_by fault.rule) t) (named_key fault.rule fault.place)
    else named_key fault.rule fault.place

abbrev pub tables_under : List ℕ → Members → Items
tables_under key t = unwrap_or (option_and_then as_array (get_member key t)) no_items

abbrev pub entry_or : Option Data → Option Members → Option Members
entry_or (Some d) rest = as_table d
entry_or None rest = rest

-- the table at a place of lists that are counted through
abbrev pub table_counted : List (List ℕ) → ℕ → Members → Option Members
table_counted [] place t = None
table_counted (key ∷ keys) place t = entry_or (get_item place (tables_under key t)) (table_counted keys (place - count_of (tables_under key t)) t)

-- the table that breaks a rule
abbrev pub table_of : ConfigFault → Members → Option Members
table_of fault t =
    if nat_le fault.rule 5 then Some t
    else if fault.rule == 10 then option_and_then as_table (get_member (codes "audit") t)
    else table_counted (lists_of fault.rule) fault.place t

abbrev pub has_version_two : Members → Bool
has_version_two t = option_map_or (is_integer 2) (integer_at (codes "version") t) false

abbrev pub integer_text : ℤ → List ℕ
integer_text n = (if int_lt n (pos 0) then codes "-" else []) ++ decimal (unsigned_abs n)

-- what is said of a value after its key
abbrev pub value_text : Option Data → List ℕ
value_text None = codes " is missing"
value_text (Some (string text)) = (codes " = \"" ++ shown_front text) ++ codes "\""
value_text (Some (integer n)) = codes " = " ++ integer_text n
value_text (Some (boolean true)) = codes " = true"
value_text (Some (boolean false)) = codes " = false"
value_text (Some (float x)) = codes " is a float"
value_text (Some (datetime x)) = codes " is a date"
value_text (Some (array ds)) = codes " is an array"
value_text (Some (table ms)) = codes " is a table"

-- a key and its value
abbrev pub key_text : Members → List ℕ → List ℕ
key_text t [] = []
key_text t (byte ∷ key) = shown_front (byte ∷ key) ++ value_text (get_member (byte ∷ key) t)

abbrev pub text_of_key : Bool → ConfigFault → Option Members → List ℕ
text_of_key two fault None = []
text_of_key two fault (Some t) = key_text t (key_of two fault t)

abbrev pub key_in : Members → ConfigFault → List ℕ
key_in document fault = text_of_key (has_version_two document) fault (table_of fault document)

-- the key and the value by which a configuration breaks a rule
abbrev pub broken_key : Result Members ConfigFault → Status → List ℕ
broken_key (Ok document) (Config fault) = key_in document fault
broken_key document status = []
