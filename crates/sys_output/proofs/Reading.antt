-- The blocks that volumes have are read, one after another.
use Rattle.std.proofs.Common.{ℕ, ◌≡◌, ◌<◌, List, [], length, map, get_or, sym, ◌∙◌, ap, arith, Result}
use Rattle.std.specs.Prelude.{OnErr, OnOk}
use Rattle.std.specs.declared.result.Result.TheVariants.{Ok, Err}
use Rattle.std.proofs.lemmas.List.{get_or-map, length-map}
use Rattle.std.proofs.lemmas.Option.{get_or_from_slice_get}
use Rattle.sys_store.specs.Blocks.{HasBlock, LacksBlock, blocks_of}

-- a block that the volume has is what is read
pub is_read : {U E : Type 0} (volumes : List (List (List ℕ))) (v block : ℕ) (bytes : List ℕ) (Q : Type 0) (r : Result U E) → block < length (blocks_of volumes v) → OnOk r (HasBlock volumes v block bytes) → OnErr r (LacksBlock volumes v block × Q) → bytes ≡ get_or (blocks_of volumes v) block bytes
is_read volumes v block bytes Q (Ok u) inside ok err = sym (get_or_from_slice_get (blocks_of volumes v) block bytes bytes ok)
is_read volumes v block bytes Q (Err e) inside ok err = absurd (omega (arith, inside, err.0))

-- each row's volume has as many as it says
pub as_many : {A : Type 0} (size : A → ℕ) (volumes : List (List (List ℕ))) (rows : List A) → map length volumes ≡ map size rows → length volumes ≡ length rows
as_many size volumes rows sizes = sym (length-map volumes length) ∙ ap length sizes ∙ length-map rows size

pub has_size : {A : Type 0} (size : A → ℕ) (volumes : List (List (List ℕ))) (rows : List A) (k : ℕ) (d : A) → map length volumes ≡ map size rows → k < length rows → length (blocks_of volumes k) ≡ size (get_or rows k d)
has_size size volumes rows k d sizes inside =
    let there : k < length volumes = omega (arith, inside, as_many size volumes rows sizes) in
    sym (get_or-map length volumes k [] 0 there) ∙ ap (λ (ns : List ℕ). get_or ns k 0) sizes ∙ get_or-map size rows k d 0 inside
