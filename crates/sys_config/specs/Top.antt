-- The keys at the top, and the lists below them.
use Rattle.std.specs.Prelude.{ℕ, suc, ℤ, pos, List, [], ◌∷◌, codes, Bool, true, false, ◌&&◌, nat_le, if◌then◌else◌, Option, Some, None, int_le, option_map, unwrap_or}
use Rattle.toml.specs.Data.{Data, Items, no_items, item, Members, as_array, as_table}
use Rattle.toml.specs.Text.{are_tables}
use Rattle.sys_config.specs.Reads.{◌>>=◌, in_range, integer_at, if_any, are_known}
use Rattle.sys_config.specs.declared.top.Top.{Top}

abbrev pub is_integer : ℕ → ℤ → Bool
is_integer n z = int_le z (pos n) && int_le (pos n) z

abbrev pub all_keys : List (List ℕ)
all_keys = codes "version" ∷ codes "slice" ∷ codes "audit" ∷ codes "terminal" ∷ codes "volume" ∷ codes "printer" ∷ codes "guest" ∷ []

-- with version 2 there is no `quantum`
unfoldable pub top_of_two : ℤ → Members → Option Top
top_of_two version t =
    if are_known all_keys t then (integer_at (codes "slice") t >>= λ slice. Some (record { version = version; quantum = None; slice = slice })) else None

-- with any other version there is one
unfoldable pub top_of_one : ℤ → Members → Option Top
top_of_one version t =
    if are_known (codes "quantum" ∷ all_keys) t then
    (integer_at (codes "quantum") t >>= λ quantum. integer_at (codes "slice") t >>= λ slice.
    Some (record { version = version; quantum = Some quantum; slice = slice }))
    else None

unfoldable pub top_of : Members → Option Top
top_of t = integer_at (codes "version") t >>= λ version. if is_integer 2 version then top_of_two version t else top_of_one version t

-- the table of the audit, if there is one
abbrev pub audit_table : Members → Option (Option Members)
audit_table t = if_any as_table (codes "audit") t

-- whether it is version 2
abbrev pub is_two : ℤ → Option Bool
is_two z = if is_integer 2 z then Some true else if is_integer 1 z then Some false else None

-- the quantum of a version 1 text
abbrev pub quantum_of : Bool → Option ℤ → Option (Option ℕ)
quantum_of true q = Some None
quantum_of false None = None
quantum_of false (Some z) = option_map Some (in_range 1 100000 z)

-- what the version allows, which is known by the quantum: version 1 alone has one for all guests
abbrev pub top_level : Option ℕ → ℕ
top_level None = 255
top_level (Some q) = 15

abbrev pub most_guests : Option ℕ → ℕ
most_guests None = 16
most_guests (Some q) = 8

abbrev pub count_of : Items → ℕ
count_of no_items = 0
count_of (item d ds) = suc (count_of ds)

-- an array of at most `most` tables
abbrev pub tables_in : ℕ → Data → Option Items
tables_in most d = as_array d >>= (λ ds. if are_tables ds && nat_le (count_of ds) most then Some ds else None)

-- the tables of a list, and none where the key is absent
unfoldable pub tables_at : List ℕ → ℕ → Members → Option Items
tables_at key most t = option_map (λ ds. unwrap_or ds no_items) (if_any (tables_in most) key t)
