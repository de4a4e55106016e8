-- Items, and the list of values that stands for them.
use Rattle.std.proofs.Common.{◌≡◌, ℕ, suc, ◌+◌, ◌<◌, ◌&&◌, List, [], ◌∷◌, length, drop, get_or, is_some, refl, ap, ◌∙◌}
use Rattle.toml.specs.declared.value.Value.{Value}
use Rattle.toml.specs.Data.{Data, string, integer, float, boolean, datetime, array, table, Items, item, as_table}
use Rattle.toml.specs.Text.{are_tables}
use Rattle.toml.specs.View.{view, items_view}
use Rattle.toml.proofs.Views.{items_view-drop}
use Rattle.sys_config.specs.Top.{count_of}

pub are_tables-first : (d : Data) (ds : Items) → are_tables (item d ds) ≡ (is_some (as_table d) && are_tables ds)
are_tables-first (string s) ds = refl
are_tables-first (integer s) ds = refl
are_tables-first (float s) ds = refl
are_tables-first (boolean s) ds = refl
are_tables-first (datetime s) ds = refl
are_tables-first (array s) ds = refl
are_tables-first (table s) ds = refl

pub are_tables-drop : (vs : List Value) (i : ℕ) (d : Value) → i < length vs → are_tables (items_view (drop i vs)) ≡ (is_some (as_table (view (get_or vs i d))) && are_tables (items_view (drop (i + 1) vs)))
are_tables-drop vs i d h = ap are_tables (items_view-drop vs i d h) ∙ are_tables-first (view (get_or vs i d)) (items_view (drop (i + 1) vs))

pub count-length : (vs : List Value) → count_of (items_view vs) ≡ length vs
count-length [] = refl
count-length (v ∷ vs) = ap suc (count-length vs)

pub ruleset lists = (are_tables-drop, count-length)
