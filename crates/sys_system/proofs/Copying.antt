-- Volumes of given blocks: which has another size, and how they are copied.
use Rattle.std.proofs.Common.{ℕ, suc, ◌≡◌, ◌==◌, ◌<◌, ◌≤◌, ◌+◌, List, [], ◌∷◌, ◌++◌, length, map, take, drop, slice_index_or, slice_set, refl, sym, ◌∙◌, ap, subst, arith, All, Bool, true, false, not, if◌then◌else◌, Option, Some, None, option_map}
use Rattle.std.proofs.Math.ListN.{drop_of_length-le}
use Rattle.std.proofs.lemmas.Bool.{eqb-true}
use Rattle.std.proofs.lemmas.List.{get_or-map, get_or_default, length-map, map-set, set-get_or, take_all, take_more, take_more_set}
use Rattle.sys_devices.proofs.Places.{as_many, at_place, blocks_fit}
use Rattle.sys_devices.proofs.Reading.{IsReadTo, next_read}
use Rattle.sys_devices.specs.Rows.{FitRows}
use Rattle.sys_guests.proofs.Powering.{beside_at, beside_long}
use Rattle.sys_devices.proofs.Lists.{found_here, found_later, from_on}
use Rattle.sys_objects.specs.Condition.{IsVolume}
use Rattle.sys_objects.specs.declared.records.VolumeRow.{VolumeRow}
use Rattle.sys_state.specs.Places.{beside_with, place_of}
use Rattle.sys_store.specs.Blocks.{blocks_of, with_block}
use Rattle.sys_system.specs.Given.{first_of_another_size, is_another_size}
use Rattle.vv_io.specs.Blocks.{SeenDrive}

abbrev others : List VolumeRow → List (List (List ℕ)) → List Bool
others rows given = beside_with is_another_size rows given

other_at : (rows : List VolumeRow) (given : List (List (List ℕ))) (k : ℕ) (row : VolumeRow) (blocks : List (List ℕ)) (b : Bool) → k < length rows → k < length given → row ≡ slice_index_or rows k row → blocks ≡ slice_index_or given k blocks → b ≡ is_another_size row blocks → b ≡ slice_index_or (others rows given) k b
other_at rows given k row blocks b h h' read read' is = subst (λ x. x ≡ slice_index_or (others rows given) k x) (sym is) (beside_at is_another_size rows given k row blocks h h' read read')

-- the first of another size is here, or later
pub other_here : (rows : List VolumeRow) (given : List (List (List ℕ))) (k : ℕ) (row : VolumeRow) (blocks : List (List ℕ)) (b : Bool) → k < length rows → length given ≡ length rows → row ≡ slice_index_or rows k row → blocks ≡ slice_index_or given k blocks → b ≡ is_another_size row blocks → b ≡ true → from_on (λ x. x) (beside_with is_another_size rows given) k ≡ Some k
other_here rows given k row blocks b h long read read' is bad =
    let size : length (others rows given) ≡ length rows = beside_long is_another_size rows given (sym long) in
    found_here (λ x. x) (others rows given) k b (omega (arith, h, size)) (other_at rows given k row blocks b h (omega (arith, h, long)) read read' is) bad

pub other_later : (rows : List VolumeRow) (given : List (List (List ℕ))) (k : ℕ) (row : VolumeRow) (blocks : List (List ℕ)) (b : Bool) → k < length rows → length given ≡ length rows → row ≡ slice_index_or rows k row → blocks ≡ slice_index_or given k blocks → b ≡ is_another_size row blocks → b ≡ false → from_on (λ x. x) (beside_with is_another_size rows given) k ≡ from_on (λ x. x) (beside_with is_another_size rows given) (k + 1)
other_later rows given k row blocks b h long read read' is good =
    let size : length (others rows given) ≡ length rows = beside_long is_another_size rows given (sym long) in
    found_later (λ x. x) (others rows given) k b (omega (arith, h, size)) (other_at rows given k row blocks b h (omega (arith, h, long)) read read' is) good

pub none_other : (rows : List VolumeRow) (given : List (List (List ℕ))) (k : ℕ) → length rows ≤ k → length given ≡ length rows → from_on (λ x. x) (beside_with is_another_size rows given) k ≡ None
none_other rows given k h long =
    let size : length (others rows given) ≡ length rows = beside_long is_another_size rows given (sym long) in
    let all : drop k (others rows given) ≡ [] = drop_of_length-le (others rows given) (omega (arith, h, size)) in
    ap (λ xs. option_map (λ n. k + n) (place_of (λ x. x) xs)) all

passes_not : (b : Bool) (rest : Option ℕ) → (if b then Some 0 else option_map suc rest) ≡ None → (b ≡ false) × (rest ≡ None)
passes_not true rest e = (cc, cc)
passes_not false None e = (refl, refl)
passes_not false (Some n) e = (refl, cc)

of_not : (b : Bool) → not b ≡ false → b ≡ true
of_not true e = refl
of_not false e = sym e

-- where none is of another size each has as many blocks as its row says
pub all_fit : (rows : List VolumeRow) (given : List (List (List ℕ))) → length given ≡ length rows → first_of_another_size rows given ≡ None → FitRows rows given
all_fit [] [] long none = refl
all_fit [] (blocks ∷ given) long none = absurd (omega (arith, long))
all_fit (row ∷ rows) [] long none = absurd (omega (arith, long))
all_fit (row ∷ rows) (blocks ∷ given) long none =
    let p = passes_not (is_another_size row blocks) (first_of_another_size rows given) none in
    let here : length blocks ≡ row.blocks = eqb-true (length blocks) row.blocks (of_not (length blocks == row.blocks) p.0) in
    let rest : FitRows rows given = all_fit rows given (omega (arith, long)) p.1 in
    λ i. here i ∷ rest i

-- blocks as a drive whose blocks are known has them
abbrev pub told : List (List ℕ) → SeenDrive
told bytes = record { size = length bytes; blocks = Some bytes; faults = 0 }

-- one block more is written
pub next_written : (n : ℕ) (volumes now after : List (List (List ℕ))) (v : ℕ) (blocks : List (List ℕ)) → v < length volumes → n < length blocks → IsReadTo n volumes now v (told blocks) → after ≡ with_block now v n (slice_index_or blocks n []) → IsReadTo (n + 1) volumes after v (told blocks)
next_written n volumes now after v blocks there h before wrote = next_read n volumes now after v (told blocks) (slice_index_or blocks n []) there h refl before refl wrote

-- all are
pub all_written : (n : ℕ) (volumes volumes' : List (List (List ℕ))) (v : ℕ) (blocks : List (List ℕ)) → length blocks ≤ n → IsReadTo n volumes volumes' v (told blocks) → volumes' ≡ slice_set volumes v blocks
all_written n volumes volumes' v blocks h before =
    let now = blocks_of volumes' v in
    let same : now ≡ blocks = sym (take_all n now (omega (arith, h, before.size))) ∙ before.told ∙ take_all n blocks h in
    before.others ∙ ap (slice_set volumes v) same

-- n volumes have the given blocks, and all have as many.
pub record AreGivenTo (n : ℕ) (given volumes : List (List (List ℕ))) : Type 0 where
  pub sizes : map length volumes ≡ map length given
  pub first : take n volumes ≡ take n given

many_given : (given volumes : List (List (List ℕ))) → map length volumes ≡ map length given → length volumes ≡ length given
many_given given volumes sizes =
    let size : List (List ℕ) → ℕ = length in
    sym (length-map volumes size) ∙ ap length sizes ∙ length-map given size

pub none_given : (rows : List VolumeRow) (given volumes : List (List (List ℕ))) → FitRows rows given → map length volumes ≡ map (λ row. row.blocks) rows → AreGivenTo 0 given volumes
none_given rows given volumes fit sizes = record { sizes = sizes ∙ sym fit; first = refl }

-- a volume has room for the blocks of its place
pub size_at : (n : ℕ) (given volumes : List (List (List ℕ))) (blocks : List (List ℕ)) → n < length given → blocks ≡ slice_index_or given n blocks → AreGivenTo n given volumes → length (blocks_of volumes n) ≡ length blocks
size_at n given volumes blocks h read before =
    let size : List (List ℕ) → ℕ = length in
    let within : n < length volumes = omega (arith, h, many_given given volumes before.sizes) in
    sym (get_or-map size volumes n [] 0 within) ∙ ap (λ xs. slice_index_or xs n 0) before.sizes ∙ get_or-map size given n blocks 0 h ∙ ap size (sym read)

pub there : (n : ℕ) (given volumes : List (List (List ℕ))) → n < length given → AreGivenTo n given volumes → n < length volumes
there n given volumes h before = omega (arith, h, many_given given volumes before.sizes)

-- no volume has more than 2,048 blocks
pub few_blocks : (rows : List VolumeRow) (given : List (List (List ℕ))) (n : ℕ) (blocks : List (List ℕ)) → All IsVolume rows → FitRows rows given → n < length given → blocks ≡ slice_index_or given n blocks → length blocks ≤ 2048
few_blocks [] given n blocks all fit h read = absurd (omega (arith, h, as_many [] given fit))
few_blocks (first ∷ rest) given n blocks all fit h read =
    let rows : List VolumeRow = first ∷ rest in
    let within : n < length rows = omega (arith, h, as_many rows given fit) in
    let row : VolumeRow = slice_index_or rows n first in
    let at : row ≡ slice_index_or rows n row = get_or_default rows n first row within in
    let one : IsVolume row = at_place IsVolume rows n row within at all in
    let long : length (blocks_of given n) ≡ row.blocks = blocks_fit rows given n row within at fit in
    let same : blocks ≡ blocks_of given n = read ∙ get_or_default given n blocks [] h in
    omega (arith, long, one.few_blocks, ap length same)

-- one more has its blocks
pub next_given : (n : ℕ) (given volumes after : List (List (List ℕ))) (blocks : List (List ℕ)) → n < length given → blocks ≡ slice_index_or given n blocks → AreGivenTo n given volumes → after ≡ slice_set volumes n blocks → AreGivenTo (n + 1) given after
next_given n given volumes after blocks h read before wrote =
    let size : List (List ℕ) → ℕ = length in
    let within : n < length volumes = there n given volumes h before in
    let here : size blocks ≡ slice_index_or (map size volumes) n 0 = sym (size_at n given volumes blocks h read before) ∙ sym (get_or-map size volumes n [] 0 within) in
    record {
      sizes = ap (map size) wrote ∙ map-set size volumes n blocks ∙ ap (slice_set (map size volumes) n) here ∙ set-get_or (map size volumes) n 0 ∙ before.sizes;
      first = ap (take (n + 1)) wrote ∙ take_more_set volumes n blocks within ∙ (λ i. before.first i ++ read i ∷ []) ∙ sym (take_more given n blocks h);
    }

-- all have them
pub all_given : (n : ℕ) (given volumes : List (List (List ℕ))) → length given ≤ n → AreGivenTo n given volumes → volumes ≡ given
all_given n given volumes h before = sym (take_all n volumes (omega (arith, h, many_given given volumes before.sizes))) ∙ before.first ∙ take_all n given h
