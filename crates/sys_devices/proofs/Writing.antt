-- Blocks that are stored to a drive, one after another.
use Rattle.std.proofs.Common.{ℕ, ◌≡◌, ◌<◌, ◌+◌, List, [], ◌∷◌, ◌++◌, length, map, take, drop, slice_set, slice_index_or, refl, sym, ◌∙◌, ap, subst, arith, append_assoc, true, Result, OnOk, OnErr}
use Rattle.std.proofs.lemmas.List.{drop_more, get_or-set_same, get_or_at, length-map, length-take-le, set-set, set_at, take_more}
use Rattle.std.proofs.lemmas.Option.{get_or_from_slice_get}
use Rattle.std.specs.declared.option.Option.{Option}
use Rattle.std.specs.declared.option.Option.TheVariants.{None, Some}
use Rattle.std.specs.declared.result.Result.TheVariants.{Ok, Err}
use Rattle.sys_devices.specs.Rows.{drive_at}
use Rattle.sys_devices.specs.Stores.{StoresOn, known_until}
use Rattle.sys_store.specs.Blocks.{HasBlock, LacksBlock, blocks_of}
use Rattle.vv_io.specs.Blocks.{AreSoMany, IsAsLong, IsSized, SeenDrive, SetsOn, drive_with_block, unkept}
use Rattle.vv_io.specs.Causes.{Rose}

-- n blocks in place of the known ones
abbrev pub told_to : ℕ → Option (List (List ℕ)) → List (List ℕ) → Option (List (List ℕ))
told_to n None blocks = None
told_to n (Some old) blocks = Some (take n blocks ++ drop n old)

-- a drive to which n blocks are stored
abbrev pub stored_to : ℕ → SeenDrive → List (List ℕ) → SeenDrive
stored_to n drive blocks = record drive { blocks = told_to n drive.blocks blocks }

-- so it is with drive k, and every other is as at the start
abbrev pub IsStoredTo : ℕ → ℕ → List SeenDrive → List SeenDrive → List (List ℕ) → Type 0
IsStoredTo n k start now blocks = now ≡ slice_set start k (stored_to n (drive_at start k) blocks)

-- something at the next block
next_told : (n : ℕ) (o : Option (List (List ℕ))) (blocks : List (List ℕ)) (any : List ℕ) (size : ℕ) → n < size → length blocks ≡ size → AreSoMany size o → drive_with_block (told_to n o blocks) n any ≡ known_until o blocks n any
next_told n None blocks any size h long many = refl
next_told n (Some old) blocks any size h long many =
    let rest : drop n old ≡ slice_index_or old n [] ∷ drop (n + 1) old = drop_more old n [] (omega (arith, h, many)) in
    let at : slice_set (take n blocks ++ drop n old) n any ≡ take n blocks ++ any ∷ drop (n + 1) old =
    ap (λ xs. slice_set (take n blocks ++ xs) n any) rest ∙ set_at (take n blocks) (slice_index_or old n []) (drop (n + 1) old) any n (length-take-le n blocks (omega (arith, h, long))) in
    ap Some at

-- the block after those that are stored is the drive's own
still_long : (n : ℕ) (o : Option (List (List ℕ))) (blocks : List (List ℕ)) (any : List ℕ) (size : ℕ) → n < size → length blocks ≡ size → AreSoMany size o → IsAsLong (told_to n o blocks) n any → IsAsLong o n any
still_long n None blocks any size h long many is = tt
still_long n (Some old) blocks any size h long many is =
    let rest : drop n old ≡ slice_index_or old n [] ∷ drop (n + 1) old = drop_more old n [] (omega (arith, h, many)) in
    let at : slice_index_or (take n blocks ++ drop n old) n [] ≡ slice_index_or old n [] =
    ap (λ xs. slice_index_or (take n blocks ++ xs) n []) rest ∙ get_or_at (take n blocks) (slice_index_or old n []) (drop (n + 1) old) [] n (length-take-le n blocks (omega (arith, h, long))) in
    is ∙ ap length at

-- that is the block that belongs there
one_more : (n : ℕ) (o : Option (List (List ℕ))) (blocks : List (List ℕ)) (bytes : List ℕ) → n < length blocks → slice_index_or blocks n [] ≡ bytes → known_until o blocks n bytes ≡ told_to (n + 1) o blocks
one_more n None blocks bytes h read = refl
one_more n (Some old) blocks bytes h read =
    let rest = drop (n + 1) old in
    let first : take (n + 1) blocks ≡ take n blocks ++ bytes ∷ [] = take_more blocks n [] h ∙ ap (λ b. take n blocks ++ b ∷ []) read in
    let at : take n blocks ++ bytes ∷ rest ≡ take (n + 1) blocks ++ rest = sym (append_assoc (take n blocks) (bytes ∷ []) rest) ∙ ap (λ xs. xs ++ rest) (sym first) in
    ap Some at

-- What one set makes of a drive to which n blocks are stored.
pub record IsSet {U E : Type 0} (n k : ℕ) (start now after : List SeenDrive) (blocks : List (List ℕ)) (bytes : List ℕ) (r : Result U E) : Type 0 where
  pub there : k < length start
  pub within : n < length blocks
  pub long : length blocks ≡ (drive_at start k).size
  pub sized : IsSized (drive_at start k)
  pub before : IsStoredTo n k start now blocks
  pub sets : SetsOn k now after n bytes r

-- a drive of a list is one of what is kept
pub inside : {D : Type 0} (f : D → SeenDrive) (items : List D) (k : ℕ) → k < length items → k < length (map f items)
inside f items k h = let long : length (map f items) ≡ length items = length-map items f in omega (arith, h, long)

at_now : (n k : ℕ) (start now : List SeenDrive) (blocks : List (List ℕ)) → k < length start → IsStoredTo n k start now blocks → drive_at now k ≡ stored_to n (drive_at start k) blocks
at_now n k start now blocks there before = ap (λ drives. drive_at drives k) before ∙ get_or-set_same start k (stored_to n (drive_at start k) blocks) unkept there

after_set : (n k : ℕ) (start now after : List SeenDrive) (blocks : List (List ℕ)) (drive : SeenDrive) → IsStoredTo n k start now blocks → after ≡ slice_set now k drive → after ≡ slice_set start k drive
after_set n k start now after blocks drive before is = is ∙ ap (λ drives. slice_set drives k drive) before ∙ set-set start k (stored_to n (drive_at start k) blocks) drive

-- the next block is stored
pub next_stored : {U E : Type 0} (n k : ℕ) (start now after : List SeenDrive) (blocks : List (List ℕ)) (bytes : List ℕ) (u : U) → (let r : Result U E = Ok u in IsSet n k start now after blocks bytes r) → slice_index_or blocks n [] ≡ bytes → IsStoredTo (n + 1) k start after blocks
next_stored n k start now after blocks bytes u h read =
    let old = drive_at start k in
    let (drive, is, sets) = h.sets in
    let at = at_now n k start now blocks h.there h.before in
    let inside : n < old.size = omega (arith, h.within, h.long) in
    let told : drive.blocks ≡ told_to (n + 1) old.blocks blocks =
    sets.writes ∙ ap (λ d. drive_with_block d.blocks n bytes) at ∙ next_told n old.blocks blocks bytes old.size inside h.long h.sized ∙ one_more n old.blocks blocks bytes h.within read in
    let size : drive.size ≡ old.size = sets.size ∙ ap (λ d. d.size) at in
    let faults : drive.faults ≡ old.faults = sets.cause.kept ∙ ap (λ d. d.faults) at in
    after_set n k start now after blocks drive h.before is ∙ (λ i. slice_set start k (record { size = size i; blocks = told i; faults = faults i }))

-- that set fails, and no other is made
pub cut_here : {U E : Type 0} (n k : ℕ) (start now after : List SeenDrive) (blocks : List (List ℕ)) (bytes : List ℕ) (e : E) → (let r : Result U E = Err e in IsSet n k start now after blocks bytes r) → StoresOn k true start after blocks
cut_here n k start now after blocks bytes e h =
    let old = drive_at start k in
    let (drive, is, sets) = h.sets in
    let at = at_now n k start now blocks h.there h.before in
    let inside : n < old.size = omega (arith, h.within, h.long) in (
      drive,
      after_set n k start now after blocks drive h.before is,
      record {
        size = sets.size ∙ ap (λ d. d.size) at;
        rose = subst (λ d. Rose d.faults drive.faults) at sets.cause.failed;
        block = n;
        within = h.within;
        any = sets.writes.0;
        long = still_long n old.blocks blocks sets.writes.0 old.size inside h.long h.sized (subst (λ (d : SeenDrive). IsAsLong d.blocks n sets.writes.0) at sets.writes.2);
        told = sets.writes.1 ∙ ap (λ d. drive_with_block d.blocks n sets.writes.0) at ∙ next_told n old.blocks blocks sets.writes.0 old.size inside h.long h.sized;
      },
    )

-- a block that the volume has is read
pub was_read : {U E : Type 0} (volumes : List (List (List ℕ))) (v block : ℕ) (into into' : List ℕ) (r : Result U E) → block < length (blocks_of volumes v) → OnOk r (HasBlock volumes v block into') → OnErr r (LacksBlock volumes v block × (into' ≡ into)) → slice_index_or (blocks_of volumes v) block [] ≡ into'
was_read volumes v block into into' (Ok u) h ok err = get_or_from_slice_get (blocks_of volumes v) block into' [] ok
was_read volumes v block into into' (Err e) h ok err = absurd (omega (arith, h, err.0))
