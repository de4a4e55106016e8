-- One printed entry more.
use Rattle.std.proofs.Common.{◌≡◌, ◌<◌, ◌+◌, ℕ, suc, List, [], ◌∷◌, ◌++◌, length, take, get_or, Option, Some, None, refl, ap, ◌∙◌, arith}
use Rattle.std.proofs.lemmas.List.{take_more}
use Rattle.std.proofs.lemmas.List.{length-take}
use Rattle.toml.specs.declared.value.Value.{Value}
use Rattle.toml.specs.Data.{Items, item, Members, table, push_item}
use Rattle.toml.specs.View.{view, items_view}
use Rattle.toml.proofs.Views.{items_view-push}
use Rattle.sys_config.specs.Written.{items_by, mount_items, written_mount}
use Rattle.sys_objects.specs.declared.records.Mount.{Mount}
use Rattle.sys_objects.specs.declared.records.VolumeRow.{VolumeRow}

items_by-last : {A : Type 0} (f : A → Members) (xs : List A) (x : A) → items_by f (xs ++ x ∷ []) ≡ push_item (items_by f xs) (table (f x))
items_by-last f [] x = refl
items_by-last f (y ∷ xs) x = ap (item (table (f y))) (items_by-last f xs x)

pub one_more : {A : Type 0} (f : A → Members) (vs new : List Value) (v : Value) (rows : List A) (i : ℕ) (r : A) (t : Members)
    → new ≡ vs ++ v ∷ [] → items_view vs ≡ items_by f (take i rows) → i < length rows → r ≡ get_or rows i r → view v ≡ table t → t ≡ f r
    → items_view new ≡ items_by f (take (i + 1) rows)
one_more f vs new v rows i r t pushed so_far within is_row is_table is_printed =
    let next : take (i + 1) rows ≡ take i rows ++ r ∷ [] = take_more rows i r within ∙ rw (← is_row) in
    rw (pushed, items_view-push vs v, so_far, is_table, is_printed, next, items_by-last f (take i rows) r)

mounts-last_none : (volumes : List VolumeRow) (ms : List (Option Mount)) (unit : ℕ) → mount_items volumes unit (ms ++ None ∷ []) ≡ mount_items volumes unit ms
mounts-last_none volumes [] unit = refl
mounts-last_none volumes (None ∷ ms) unit = mounts-last_none volumes ms (suc unit)
mounts-last_none volumes (Some m ∷ ms) unit = ap (item (table (written_mount volumes unit m))) (mounts-last_none volumes ms (suc unit))

mounts-last_some : (volumes : List VolumeRow) (ms : List (Option Mount)) (unit at : ℕ) (m : Mount) → unit + length ms ≡ at
    → mount_items volumes unit (ms ++ Some m ∷ []) ≡ push_item (mount_items volumes unit ms) (table (written_mount volumes at m))
mounts-last_some volumes [] unit at m e = let same : unit ≡ at = omega arith in rw same
mounts-last_some volumes (None ∷ ms) unit at m e = mounts-last_some volumes ms (suc unit) at m (omega arith)
mounts-last_some volumes (Some n ∷ ms) unit at m e = ap (item (table (written_mount volumes unit n))) (mounts-last_some volumes ms (suc unit) at m (omega arith))

pub no_mount_more : (volumes : List VolumeRow) (items : Items) (ms : List (Option Mount)) (i : ℕ)
    → items ≡ mount_items volumes 0 (take i ms) → i < length ms → get_or ms i None ≡ None → items ≡ mount_items volumes 0 (take (i + 1) ms)
no_mount_more volumes items ms i so_far within none = rw (take_more ms i None within, none, mounts-last_none volumes (take i ms) 0) so_far

pub one_mount_more : (volumes : List VolumeRow) (vs new : List Value) (v : Value) (ms : List (Option Mount)) (i : ℕ) (m : Mount) (t : Members)
    → new ≡ vs ++ v ∷ [] → items_view vs ≡ mount_items volumes 0 (take i ms) → i < length ms → get_or ms i None ≡ Some m → view v ≡ table t → t ≡ written_mount volumes i m
    → items_view new ≡ mount_items volumes 0 (take (i + 1) ms)
one_mount_more volumes vs new v ms i m t pushed so_far within some is_table is_printed =
    let at : 0 + length (take i ms) ≡ i = omega (arith, length-take i ms) in
    rw (pushed, items_view-push vs v, so_far, is_table, is_printed, take_more ms i None within, some, mounts-last_some volumes (take i ms) 0 i m at)
