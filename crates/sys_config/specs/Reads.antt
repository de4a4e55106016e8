-- What is at a key of a table, read as a number, a text or a truth value.
use Rattle.std.specs.Prelude.{ℕ, ℤ, pos, List, Bool, true, ◌&&◌, if◌then◌else◌, Option, Some, None, option_map, option_and_then, int_le, unsigned_abs, bytes_eq}
use Rattle.std.specs.List.{list_any}
use Rattle.toml.specs.Data.{Data, Members, no_members, member, get_member, as_integer, as_str, as_bool}

infixl 10 ◌>>=◌
abbrev pub ◌>>=◌ : {A B : Type 0} → Option A → (A → Option B) → Option B
o >>= f = option_and_then f o

-- an integer, if it is in a range
abbrev pub in_range : ℕ → ℕ → ℤ → Option ℕ
in_range low high z = if int_le (pos low) z && int_le z (pos high) then Some (unsigned_abs z) else None

abbrev pub integer_in : ℕ → ℕ → Data → Option ℕ
integer_in low high d = as_integer d >>= in_range low high

abbrev pub integer_at : List ℕ → Members → Option ℤ
integer_at key t = get_member key t >>= as_integer

abbrev pub bounded_integer_at : List ℕ → ℕ → ℕ → Members → Option ℕ
bounded_integer_at key low high t = get_member key t >>= integer_in low high

abbrev pub text_at : List ℕ → Members → Option (List ℕ)
text_at key t = get_member key t >>= as_str

abbrev pub flag_at : List ℕ → Members → Option Bool
flag_at key t = get_member key t >>= as_bool

-- nothing where nothing is, or what it is read as; and so at a key that may be absent
abbrev pub if_some : {A B : Type 0} → (A → Option B) → Option A → Option (Option B)
if_some read None = Some None
if_some read (Some d) = option_map Some (read d)

abbrev pub if_any : {A : Type 0} → (Data → Option A) → List ℕ → Members → Option (Option A)
if_any read key t = if_some read (get_member key t)

-- each key of the table is one of these
abbrev pub are_known : List (List ℕ) → Members → Bool
are_known keys no_members = true
are_known keys (member k d ms) = list_any (bytes_eq k) keys && are_known keys ms
