-- Rows by their places, beside their volumes.
use Rattle.std.proofs.Common.{ℕ, zero, suc, ◌≡◌, ◌<◌, ◌≤◌, ◌+◌, ◌==◌, List, [], ◌∷◌, length, take, slice_get, slice_index_or, refl, sym, ◌∙◌, ap, subst, arith, Bool, true, false, All}
use Rattle.std.proofs.lemmas.Bool.{eqb-false, eqb-true}
use Rattle.std.proofs.lemmas.List.{get_or-map, get_or-take, get_or_default, length-map, length-take-le}
use Rattle.std.proofs.lemmas.Option.{get_or_from_slice_get, slice_get_read, slice_get_within}
use Rattle.sys_devices.specs.Rows.{FitRows, IsRowAt}
use Rattle.sys_objects.specs.declared.records.VolumeRow.{VolumeRow}
use Rattle.sys_store.specs.Blocks.{blocks_of}

pub both : {A : Type 0} (b : Bool) → (b ≡ true → A) → (b ≡ false → A) → A
both true f g = f refl
both false f g = g refl

-- the row that is read at a place is there
pub stands : (rows : List VolumeRow) (v : ℕ) (row : VolumeRow) → v < length rows → row ≡ slice_index_or rows v row → IsRowAt rows v row
stands rows v row h read = slice_get_read rows (length rows) v row refl h read

-- what is found where one is read is that one
pub same_row : (rows : List VolumeRow) (v : ℕ) (row other : VolumeRow) → row ≡ slice_index_or rows v row → IsRowAt rows v other → row ≡ other
same_row rows v row other read at = read ∙ get_or_from_slice_get rows v other row at

-- what holds of every row holds of the one at a place
pub at_place : (P : VolumeRow → Type 0) (rows : List VolumeRow) (v : ℕ) (row : VolumeRow) → v < length rows → row ≡ slice_index_or rows v row → All P rows → P row
at_place P rows v row h read all = subst P (sym read) (all v row h)

-- that row, as a clause has it
pub at_stands : (P : VolumeRow → Type 0) (rows : List VolumeRow) (v : ℕ) (row : VolumeRow) → IsRowAt rows v row → All P rows → P row
at_stands P rows v row at all = subst P (get_or_from_slice_get rows v row row at) (all v row (slice_get_within rows v row at))

get_take : (n v : ℕ) (rows : List VolumeRow) → v < n → slice_get (take n rows) v ≡ slice_get rows v
get_take zero v rows h = absurd (omega (arith, h))
get_take (suc n) v [] h = refl
get_take (suc n) zero (row ∷ rows) h = refl
get_take (suc n) (suc v) (row ∷ rows) h = get_take n v rows (omega (arith, h))

-- a row among the first, and among all
pub within_first : (rows : List VolumeRow) (n v : ℕ) (row : VolumeRow) → n ≤ length rows → IsRowAt (take n rows) v row → v < n
within_first rows n v row h at = omega (arith, slice_get_within (take n rows) v row at, length-take-le n rows h)

pub of_first : (rows : List VolumeRow) (n v : ℕ) (row : VolumeRow) → v < n → IsRowAt (take n rows) v row → IsRowAt rows v row
of_first rows n v row h at = sym (get_take n v rows h) ∙ at

pub to_first : (rows : List VolumeRow) (n v : ℕ) (row : VolumeRow) → v < n → IsRowAt rows v row → IsRowAt (take n rows) v row
to_first rows n v row h at = get_take n v rows h ∙ at

-- what holds of the first rows and of the next
pub all_more : (P : VolumeRow → Type 0) (rows : List VolumeRow) (n : ℕ) (row : VolumeRow) → n < length rows → row ≡ slice_index_or rows n row → All P (take n rows) → P row → All P (take (n + 1) rows)
all_more P rows n row h read before here k d within =
    let long : length (take (n + 1) rows) ≡ n + 1 = length-take-le (n + 1) rows (omega (arith, h)) in
    let first : length (take n rows) ≡ n = length-take-le n rows (omega (arith, h)) in
    let low : k < n + 1 = omega (arith, within, long) in
    subst P (sym (get_or-take (n + 1) rows k d low)) (both (k == n)
    (λ e. let same : k ≡ n = eqb-true k n e in subst P (read ∙ get_or_default rows n row d h ∙ ap (λ m. slice_index_or rows m d) (sym same)) here)
    (λ e. let other : (k ≡ n → ⊥) = eqb-false k n e in let lower : k < n = omega (arith, low, other) in subst P (get_or-take n rows k d lower) (before k d (omega (arith, lower, first)))))

-- of one row fewer
pub all_fewer : (P : VolumeRow → Type 0) (rows : List VolumeRow) (n : ℕ) → n < length rows → All P (take (n + 1) rows) → All P (take n rows)
all_fewer P rows n h all k d within =
    let long : length (take (n + 1) rows) ≡ n + 1 = length-take-le (n + 1) rows (omega (arith, h)) in
    let first : length (take n rows) ≡ n = length-take-le n rows (omega (arith, h)) in
    let low : k < n = omega (arith, within, first) in
    subst P (get_or-take (n + 1) rows k d (omega (arith, low)) ∙ sym (get_or-take n rows k d low)) (all k d (omega (arith, low, long)))

-- of the last of them
pub all_last : (P : VolumeRow → Type 0) (rows : List VolumeRow) (n : ℕ) (row : VolumeRow) → n < length rows → row ≡ slice_index_or rows n row → All P (take (n + 1) rows) → P row
all_last P rows n row h read all = at_stands P (take (n + 1) rows) n row (to_first rows (n + 1) n row (omega arith) (stands rows n row h read)) all

-- as many volumes as rows
pub as_many : (rows : List VolumeRow) (volumes : List (List (List ℕ))) → FitRows rows volumes → length volumes ≡ length rows
as_many rows volumes fit =
    let size : List (List ℕ) → ℕ = length in
    sym (length-map volumes size) ∙ ap length fit ∙ length-map rows (λ (row : VolumeRow). row.blocks)

-- as many blocks as the row says
pub blocks_fit : (rows : List VolumeRow) (volumes : List (List (List ℕ))) (v : ℕ) (row : VolumeRow) → v < length rows → row ≡ slice_index_or rows v row → FitRows rows volumes → length (blocks_of volumes v) ≡ row.blocks
blocks_fit rows volumes v row h read fit =
    let size : List (List ℕ) → ℕ = length in
    let within : v < length volumes = omega (arith, h, as_many rows volumes fit) in
    sym (get_or-map size volumes v [] 0 within) ∙ ap (λ xs. slice_index_or xs v 0) fit ∙ get_or-map (λ (r : VolumeRow). r.blocks) rows v row 0 h ∙ ap (λ r. r.blocks) (sym read)
