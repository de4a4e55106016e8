-- The keys of a map, looked up among rows, are those of the members that it stands for.
use Rattle.std.proofs.Common.{◌≡◌, ℕ, ◌<◌, ◌≤◌, ◌+◌, ◌-◌, length, get_or, drop, ◌||◌, Bool, true, false, not, if◌then◌else◌, List, [], ◌∷◌, find, map, option_map, Option, Some, None, String, Global, Bor, bytes_eq, string_bytes, refl, sym, ap}
use Rattle.std.specs.List.{list_any}
use Rattle.std.specs.Map.{keys_of}
use Rattle.toml.specs.declared.value.Value.{Value}
use Rattle.std.proofs.lemmas.List.{drop_more}
use Rattle.toml.proofs.Views.{get_item_within, get_item_past}
use Rattle.toml.specs.Data.{Members, as_table}
use Rattle.toml.specs.View.{items_view, members_view, view}
use Rattle.sys_config.proofs.ItemLaws.{count-length}
use Rattle.vv_edge.specs.Broken.{Rows, table_counted, rows_seen, is_known_in, first_unknown, tables_under}
use Rattle.vv_edge.specs.declared.broken.Form.{Form}

pub any_row : (k : List ℕ) (rows : List (Bor (List ℕ) × Form)) → list_any (λ (row : Bor (List ℕ) × Form). bytes_eq k row.0.now) rows ≡ is_known_in k (rows_seen rows)
any_row k [] = refl
any_row k (row ∷ rows) = ap (λ rest. bytes_eq k row.0.now || rest) (any_row k rows)

if_unknown : (b : Bool) (s : String Global) (rest : Option (String Global)) (other : Option (List ℕ))
    → option_map string_bytes rest ≡ other → option_map string_bytes (if not b then Some s else rest) ≡ (if b then other else Some (string_bytes s))
if_unknown true s rest other same = same
if_unknown false s rest other same = refl

pub find_unknown : (needed more : List (Bor (List ℕ) × Form)) (es : List (String Global × Value))
    → option_map string_bytes (find (λ (k : String Global). not (list_any (λ (row : Bor (List ℕ) × Form). bytes_eq (string_bytes k) row.0.now) needed || list_any (λ (row : Bor (List ℕ) × Form). bytes_eq (string_bytes k) row.0.now) more)) (keys_of es))
    ≡ first_unknown (rows_seen needed) (rows_seen more) (members_view es)
find_unknown needed more [] = refl
find_unknown needed more (e ∷ es) = rw (any_row (string_bytes e.0) needed, any_row (string_bytes e.0) more) (if_unknown (is_known_in (string_bytes e.0) (rows_seen needed) || is_known_in (string_bytes e.0) (rows_seen more)) e.0 _ _ (find_unknown needed more es))

-- the table at a place, where the first list that is left has it, and where it hasn't
pub entry_found : (lists : List (Bor (List ℕ))) (i : ℕ) (key : Bor (List ℕ)) (t : Members) (n : ℕ) (vs : List Value) (v : Value) → i < length lists → items_view vs ≡ tables_under (get_or lists i key).now t → n < length vs → v ≡ get_or vs n v
    → table_counted (map (λ (k : Bor (List ℕ)). k.now) (drop i lists)) n t ≡ as_table (view v)
entry_found lists i key t n vs v low under there is = rw (drop_more lists i key low, sym under, sym (get_item_within vs n v there)) (sym (ap (λ w. as_table (view w)) is))

pub entry_next : (lists : List (Bor (List ℕ))) (i : ℕ) (key : Bor (List ℕ)) (t : Members) (n : ℕ) (vs : List Value) → i < length lists → items_view vs ≡ tables_under (get_or lists i key).now t → length vs ≤ n
    → table_counted (map (λ (k : Bor (List ℕ)). k.now) (drop i lists)) n t ≡ table_counted (map (λ (k : Bor (List ℕ)). k.now) (drop (i + 1) lists)) (n - length vs) t
entry_next lists i key t n vs low under past = rw (drop_more lists i key low, sym under, sym (get_item_past vs n past), count-length vs) refl
