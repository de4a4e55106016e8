-- A volume that is seen among the others, and changed.
use Rattle.std.proofs.Common.{◌≡◌, ◌<◌, ◌≤◌, ℕ, List, [], length, map, slice_set, slice_index_or, Result, OnOk, OnErr, sym, ap, subst, ◌∙◌}
use Rattle.std.proofs.lemmas.List.{length-map, map-set, get_or-map, set-get_or}
use Rattle.std.proofs.lemmas.Result.{on_ok_weaker, on_err_weaker}
use Rattle.sys_store.specs.Blocks.{blocks_of, with_block, LacksBlock}

abbrev Blocks : Type 0
Blocks = List (List ℕ)

-- the one that is seen at a place among all that are seen
pub record IsSeen {D : Type 0} (f : D → Blocks) (items : List D) (k : ℕ) (old : D) (all : List Blocks) (v : ℕ) : Type 0 where
  pub place : k ≡ v
  pub within : v < length all
  pub view : all ≡ map f items
  pub read : old ≡ slice_index_or items k old

same : {D : Type 0} (f : D → Blocks) (items : List D) (k : ℕ) (old : D) (all : List Blocks) (v : ℕ) → IsSeen f items k old all v → f old ≡ blocks_of all v
same f items k old all v h =
    let P : ℕ → Type 0 = λ n. k < n in
    let Q : ℕ → Type 0 = λ n. n < length all in
    let as_many : length (map f items) ≡ length items = simp length-map in
    let within : k < length items = subst P (ap length h.view ∙ as_many) (subst Q (sym h.place) h.within) in
    ap f h.read ∙ sym (get_or-map f items k old [] within) ∙ ap (λ us. slice_index_or us k []) (sym h.view) ∙ ap (λ n. slice_index_or all n []) h.place

changed : {D : Type 0} (f : D → Blocks) (items : List D) (k : ℕ) (old new : D) (all : List Blocks) (v : ℕ) → IsSeen f items k old all v → map f (slice_set items k new) ≡ slice_set all v (f new)
changed f items k old new all v h = map-set f items k new ∙ ap (λ us. slice_set us k (f new)) (sym h.view) ∙ ap (λ n. slice_set all n (f new)) h.place

pub has_block : {D U E : Type 0} (f : D → Blocks) (items : List D) (k : ℕ) (old : D) (all : List Blocks) (v block : ℕ) (result : Result U E) → IsSeen f items k old all v
    → OnOk result (block < length (f old)) → OnOk result (block < length (blocks_of all v))
has_block f items k old all v block result h = let P : Blocks → Type 0 = λ bs. block < length bs in on_ok_weaker result (subst P (same f items k old all v h))

pub written : {D U E : Type 0} (f : D → Blocks) (items : List D) (k : ℕ) (old new : D) (all : List Blocks) (v block : ℕ) (bytes : List ℕ) (result : Result U E) → IsSeen f items k old all v
    → OnOk result (f new ≡ slice_set (f old) block bytes) → OnOk result (map f (slice_set items k new) ≡ with_block all v block bytes)
written f items k old new all v block bytes result h = on_ok_weaker result
    (λ e. changed f items k old new all v h ∙ ap (slice_set all v) (e ∙ ap (λ bs. slice_set bs block bytes) (same f items k old all v h)))

pub kept : {D U E : Type 0} (f : D → Blocks) (items : List D) (k : ℕ) (old new : D) (all : List Blocks) (v block : ℕ) (result : Result U E) → IsSeen f items k old all v
    → OnErr result ((length (f old) ≤ block) × (f new ≡ f old)) → OnErr result (LacksBlock all v block × (map f (slice_set items k new) ≡ all))
kept f items k old new all v block result h =
    let at = same f items k old all v h in
    let P : Blocks → Type 0 = λ bs. length bs ≤ block in
    on_err_weaker result (λ e. (subst P at e.0, changed f items k old new all v h ∙ ap (slice_set all v) (e.1 ∙ at) ∙ set-get_or all v []))
