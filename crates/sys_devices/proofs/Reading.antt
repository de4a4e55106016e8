-- A volume that is read block by block.
use Rattle.std.proofs.Common.{ℕ, ◌≡◌, ◌<◌, ◌+◌, List, [], ◌∷◌, ◌++◌, length, take, slice_set, slice_index_or, sym, ◌∙◌, ap, subst, arith, Result, OnOk, OnErr}
use Rattle.std.proofs.lemmas.List.{get_or-set_same, length-set, set-get_or, set-set, take_more, take_more_set}
use Rattle.std.specs.declared.option.Option.{Option}
use Rattle.std.specs.declared.option.Option.TheVariants.{None, Some}
use Rattle.std.specs.declared.result.Result.TheVariants.{Ok, Err}
use Rattle.sys_devices.specs.Rows.{drive_at}
use Rattle.sys_store.specs.Blocks.{LacksBlock, blocks_of, with_block}
use Rattle.vv_io.specs.Blocks.{AreSoMany, GetsFrom, IsSized, ReadsBlock, SeenDrive, unkept}

-- the first blocks are a drive's, where they are known
abbrev pub AreFirst : ℕ → Option (List (List ℕ)) → List (List ℕ) → Type 0
AreFirst n None blocks = Unit {0}
AreFirst n (Some told) blocks = take n blocks ≡ take n told

-- n blocks of a drive are read into the volume at a place.
pub record IsReadTo (n : ℕ) (volumes volumes' : List (List (List ℕ))) (v : ℕ) (drive : SeenDrive) : Type 0 where
  pub others : volumes' ≡ slice_set volumes v (blocks_of volumes' v)
  pub size : length (blocks_of volumes' v) ≡ drive.size
  pub told : AreFirst n drive.blocks (blocks_of volumes' v)

-- the bytes are those of a block, where it is known
abbrev pub Gives : Option (List (List ℕ)) → ℕ → List ℕ → Type 0
Gives None block bytes = Unit {0}
Gives (Some told) block bytes = bytes ≡ slice_index_or told block []

gives : {U : Type 0} (E : Type 0) (o : Option (List (List ℕ))) (block : ℕ) (into into' : List ℕ) (u : U) → (let r : Result U E = Ok u in ReadsBlock o block into into' r) → Gives o block into'
gives E None block into into' u reads = tt
gives E (Some told) block into into' u reads = reads

-- a block is got, and no drive changes
pub got : {U E : Type 0} (k block : ℕ) (start now after : List SeenDrive) (into into' : List ℕ) (u : U) → now ≡ start → (let r : Result U E = Ok u in GetsFrom k now after block into into' r) → (after ≡ start) × Gives (drive_at start k).blocks block into'
got {U} {E} k block start now after into into' u before (drive, is, gets) =
    let same : drive ≡ drive_at now k = gets.stays ∙ (λ i. record (drive_at now k) { faults = gets.cause.kept i }) in
    let told : Gives (drive_at now k).blocks block into' = gives E (drive_at now k).blocks block into into' u gets.reads in
    (is ∙ ap (slice_set now k) same ∙ set-get_or now k unkept ∙ before, subst (λ drives. Gives (drive_at drives k).blocks block into') before told)

-- a block that the volume has is written
pub written : {U E : Type 0} (now after : List (List (List ℕ))) (v block : ℕ) (bytes : List ℕ) (r : Result U E) → block < length (blocks_of now v) → OnOk r (after ≡ with_block now v block bytes) → OnErr r (LacksBlock now v block × (after ≡ now)) → after ≡ with_block now v block bytes
written now after v block bytes (Ok u) h ok err = ok
written now after v block bytes (Err e) h ok err = absurd (omega (arith, h, err.0))

first_more : (n : ℕ) (o : Option (List (List ℕ))) (blocks : List (List ℕ)) (bytes : List ℕ) (size : ℕ) → n < size → length blocks ≡ size → AreSoMany size o → AreFirst n o blocks → Gives o n bytes → AreFirst (n + 1) o (slice_set blocks n bytes)
first_more n None blocks bytes size h long many first is = tt
first_more n (Some told) blocks bytes size h long many first is =
    let inside : n < length blocks = omega (arith, h, long) in
    let within : n < length told = omega (arith, h, many) in
    take_more_set blocks n bytes inside ∙ (λ i. first i ++ is i ∷ []) ∙ sym (take_more told n [] within)

-- the next block is read
pub next_read : (n : ℕ) (volumes now after : List (List (List ℕ))) (v : ℕ) (drive : SeenDrive) (bytes : List ℕ) → v < length volumes → n < drive.size → IsSized drive → IsReadTo n volumes now v drive → Gives drive.blocks n bytes → after ≡ with_block now v n bytes → IsReadTo (n + 1) volumes after v drive
next_read n volumes now after v drive bytes there h sized before is wrote =
    let blocks = blocks_of now v in
    let more = slice_set blocks n bytes in
    let many : length now ≡ length volumes = ap length before.others ∙ length-set volumes v blocks in
    let here : blocks_of after v ≡ more = ap (λ vs. blocks_of vs v) wrote ∙ get_or-set_same now v more [] (omega (arith, there, many)) in
    record {
      others = wrote ∙ ap (λ vs. slice_set vs v more) before.others ∙ set-set volumes v blocks more ∙ ap (slice_set volumes v) (sym here);
      size = ap length here ∙ length-set blocks n bytes ∙ before.size;
      told = subst (AreFirst (n + 1) drive.blocks) (sym here) (first_more n drive.blocks blocks bytes drive.size h before.size sized before.told is);
    }
