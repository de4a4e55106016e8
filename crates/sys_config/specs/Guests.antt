-- An entry of the guests. A console, a printer and a mount's volume are given by name, and kept by place; a name that
-- no object has gets the number of the objects in the place of one, so that nothing is there.
use Rattle.std.specs.Prelude.{ℕ, List, [], ◌∷◌, codes, length, Bool, true, false, if◌then◌else◌, Option, Some, None, is_some, bytes_eq, slice_index_or, slice_set, unwrap_or}
use Rattle.std.specs.List.{position}
use Rattle.toml.specs.Data.{Data, Items, no_items, item, Members, as_str, as_array}
use Rattle.vv_base.specs.Names.{is_file_name, tested}
use Rattle.sys_config.specs.Reads.{◌>>=◌, integer_in, bounded_integer_at, text_at, flag_at, if_any, are_known}
use Rattle.sys_config.specs.Answers.{entry_from_table}
use Rattle.sys_config.specs.Entries.{name_in, name_at, class_at}
use Rattle.sys_objects.specs.declared.records.Terminal.{Terminal}
use Rattle.sys_objects.specs.declared.records.VolumeRow.{VolumeRow}
use Rattle.sys_objects.specs.declared.records.PrinterRow.{PrinterRow}
use Rattle.sys_objects.specs.declared.records.GuestRow.{GuestRow}
use Rattle.sys_objects.specs.declared.records.Mount.{Mount}
use Rattle.sys_config.specs.declared.mounts.UnitMount.{UnitMount}

-- the place of the object that has a name, or the number of the objects
abbrev pub place_named : {A : Type 0} → (A → List ℕ) → List A → List ℕ → ℕ
place_named name_of rows name = unwrap_or (position (λ x. bytes_eq name (name_of x)) rows) (length rows)

abbrev pub object_in : {A : Type 0} → (A → List ℕ) → List A → Data → Option ℕ
object_in name_of rows d = as_str d >>= name_in >>= (λ name. Some (place_named name_of rows name))

abbrev pub volume_place : List VolumeRow → List ℕ → ℕ
volume_place = place_named (λ (v : VolumeRow). v.name)

-- a mount and its unit, 0 to 3
unfoldable pub mount_of : List VolumeRow → Members → Option UnitMount
mount_of volumes t =
    if are_known (codes "unit" ∷ codes "volume" ∷ codes "write" ∷ []) t then
    (bounded_integer_at (codes "unit") 0 3 t >>= λ unit. name_at (codes "volume") t >>= λ name. flag_at (codes "write") t >>= λ write.
    Some (record { unit = unit; mount = record { volume = volume_place volumes name; write = write } }))
    else None

abbrev pub Units : Type 0
Units = List (Option Mount)

-- a mount at its unit, which must be free
abbrev pub mounted_at_unit : Units → UnitMount → Option Units
mounted_at_unit units m = if is_some (slice_index_or units m.unit None) then None else Some (slice_set units m.unit (Some m.mount))

abbrev pub mounts_from : List VolumeRow → Units → Items → Option Units
mounts_from volumes units no_items = Some units
mounts_from volumes units (item d ds) = entry_from_table (mount_of volumes) d >>= mounted_at_unit units >>= (λ next. mounts_from volumes next ds)

abbrev pub no_mounts : Units
no_mounts = None ∷ None ∷ None ∷ None ∷ []

-- what the keys that may be absent are read as
abbrev pub mounts_in : List VolumeRow → Data → Option Units
mounts_in volumes d = as_array d >>= mounts_from volumes no_mounts

-- `"set"` or `"fault"`: whether modify faults are on
abbrev pub modify_in : List ℕ → Option Bool
modify_in text = if bytes_eq text (codes "set") then Some false else if bytes_eq text (codes "fault") then Some true else None

abbrev pub modify_of : Data → Option Bool
modify_of d = as_str d >>= modify_in

-- the quantum of the text in version 1, and in version 2 the guest's own
abbrev pub own_quantum : Option ℕ → Members → Option ℕ
own_quantum (Some q) t = Some q
own_quantum None t = bounded_integer_at (codes "quantum") 1 100000 t

abbrev pub guest_keys : List (List ℕ)
guest_keys =
    codes "name" ∷ codes "class" ∷ codes "pages" ∷ codes "image" ∷ codes "load" ∷ codes "start" ∷ codes "autostart"
    ∷ codes "console" ∷ codes "printer" ∷ codes "dump" ∷ codes "modify" ∷ codes "mount" ∷ []

abbrev pub keys_of_guest : Option ℕ → List (List ℕ)
keys_of_guest (Some q) = guest_keys
keys_of_guest None = codes "quantum" ∷ guest_keys

abbrev pub image_at : Members → Option (List ℕ)
image_at t = text_at (codes "image") t >>= tested is_file_name

-- the keys that every guest has
unfoldable pub bare_guest_of : ℕ → Option ℕ → Members → Option GuestRow
bare_guest_of top quantum t =
    name_at (codes "name") t >>= λ name. class_at top t >>= λ class. bounded_integer_at (codes "pages") 64 2048 t >>= λ pages.
    image_at t >>= λ image. bounded_integer_at (codes "load") 0 4294967295 t >>= λ load. bounded_integer_at (codes "start") 0 4294967295 t >>= λ start.
    flag_at (codes "autostart") t >>= λ autostart. own_quantum quantum t >>= λ own.
    Some (record {
      name = name;
      class = class;
      pages = pages;
      image = image;
      load = load;
      start = start;
      autostart = autostart;
      console = None;
      printer = None;
      dump = None;
      mounts = no_mounts;
      modify_faults = false;
      quantum = own;
    })

-- the keys that it may have besides
unfoldable pub guest_row_in : ℕ → Option ℕ → List Terminal → List VolumeRow → List PrinterRow → Members → Option GuestRow
guest_row_in top quantum terminals volumes printers t =
    if are_known (keys_of_guest quantum) t then
    (bare_guest_of top quantum t >>= λ guest.
    if_any (object_in (λ (t : Terminal). t.name) terminals) (codes "console") t >>= λ console. if_any (object_in (λ (p : PrinterRow). p.name) printers) (codes "printer") t >>= λ printer.
    if_any (integer_in 0 31) (codes "dump") t >>= λ dump. if_any modify_of (codes "modify") t >>= λ modify.
    if_any (mounts_in volumes) (codes "mount") t >>= λ mounts.
    Some (record guest { console = console; printer = printer; dump = dump; mounts = unwrap_or mounts no_mounts; modify_faults = unwrap_or modify false }))
    else None
