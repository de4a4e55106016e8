-- Guests, volumes and blocks, one after another.
use Rattle.std.proofs.Common.{◌≡◌, ℕ, suc, ◌+◌, subst, ◌-◌, ◌<◌, Bool, false, replicate, List, [], ◌∷◌, ◌++◌, length, take, drop, get_or, map, refl, sym, ap, ◌∙◌, append_assoc}
use Rattle.std.specs.List.{All, fold, sum_by}
use Rattle.std.specs.Prelude.{Vec}
use Rattle.std.specs.declared.alloc.Global.{Global}
use Rattle.std.specs.declared.result.Result.TheVariants.{Err}
use Rattle.std.proofs.lemmas.List.{drop_at, length-map, map-append, take_at, take_more}
use Rattle.std.proofs.lemmas.List.Elements.{All-replicate}
use Rattle.std.proofs.lemmas.List.Sums.{sum_by_push}
use Rattle.sys_objects.specs.declared.records.GuestRow.{GuestRow}
use Rattle.sys_snap.proofs.Loops.{each_fault, each_more, got}
use Rattle.sys_snap.specs.Fronts.{after_front}
use Rattle.sys_state.specs.State.{is_running}
use Rattle.sys_snap.specs.Held.{ArePlacedSnapshots, snapshot_guest}
use Rattle.sys_snap.specs.Reader.{cut_blocks}
use Rattle.sys_snap.specs.Reading.{Reading, Rest, each}
use Rattle.sys_snap.specs.Reads.{ReadsOrLacks}
use Rattle.sys_snap.specs.declared.fault.SnapError.{SnapError}
use Rattle.sys_snap.specs.declared.fault.SnapError.TheVariants.{Fault, NoMemory}
use Rattle.sys_snap.specs.declared.snap.GuestSnap.{GuestSnap}
use Rattle.vm_state.specs.State.{HasPlace}

-- the next that was read, as it is defined, after those before it
pub seen_more : {A B C : Type 0} (p : A → Reading B) (seen : C → B) (xs : List A) (i : ℕ) (x : A) (cs cs' : List C) (c : C) (r r' : Rest) → i < length xs → x ≡ get_or xs i x → cs' ≡ cs ++ c ∷ [] → p x r ≡ got (seen c) r' → after_front (map seen cs) (each p (drop i xs) r) ≡ after_front (map seen cs') (each p (drop (i + 1) xs) r')
seen_more p seen xs i x cs cs' c r r' inside is pushed read =
    each_more p (map seen cs) xs i x (seen c) r r' inside is read
    ∙ ap (λ front. after_front front (each p (drop (i + 1) xs) r')) (sym (ap (map seen) pushed ∙ map-append seen cs (c ∷ [])))

-- one more guest after the others
abbrev pages_from : ℕ → List GuestRow → ℕ
pages_from base rows = fold (λ a (r : GuestRow). a + r.pages) base rows

placed_push : (base : ℕ) (rows : List GuestRow) (gs : List GuestSnap) (row : GuestRow) (g : GuestSnap) → ArePlacedSnapshots base rows gs → HasPlace row.pages (pages_from base rows) row.start g.state → ArePlacedSnapshots base (rows ++ row ∷ []) (gs ++ g ∷ [])
placed_push base [] [] row g are has = (has, tt)
placed_push base [] (h ∷ gs) row g are has = absurd are
placed_push base (q ∷ rows) [] row g are has = absurd are
placed_push base (q ∷ rows) (h ∷ gs) row g are has = (are.0, placed_push (base + q.pages) rows gs row g are.1 has)

pub placed_more : (rows : List GuestRow) (i base : ℕ) (gs gs' : List GuestSnap) (row : GuestRow) (g : GuestSnap) → i < length rows → row ≡ get_or rows i row → base ≡ sum_by (λ r. r.pages) (take i rows) → gs' ≡ gs ++ g ∷ [] → ArePlacedSnapshots 0 (take i rows) gs → HasPlace row.pages base row.start g.state → ArePlacedSnapshots 0 (take (i + 1) rows) gs'
placed_more rows i base gs gs' row g inside is sum pushed are has =
    let more : take (i + 1) rows ≡ take i rows ++ row ∷ [] = take_more rows i row inside ∙ ap (λ z. take i rows ++ z ∷ []) (sym is) in
    rw (more, pushed) (placed_push 0 (take i rows) gs row g are (subst (λ b. HasPlace row.pages b row.start g.state) sum has))

pub sum_more : (rows : List GuestRow) (i base : ℕ) (row : GuestRow) → i < length rows → row ≡ get_or rows i row → base ≡ sum_by (λ r. r.pages) (take i rows) → base + row.pages ≡ sum_by (λ r. r.pages) (take (i + 1) rows)
sum_more rows i base row inside is sum =
    let more : take (i + 1) rows ≡ take i rows ++ row ∷ [] = take_more rows i row inside ∙ ap (λ z. take i rows ++ z ∷ []) (sym is) in
    ap (λ b. b + row.pages) sum ∙ sym (ap (sum_by (λ r. r.pages)) more ∙ sum_by_push (λ (r : GuestRow). r.pages) (take i rows) row)

-- one more block after the others
pub cut_more : (blocks blocks' : List (List ℕ)) (b rest others : List ℕ) (left k : ℕ) → left ≡ suc k → b ≡ take 512 rest → others ≡ drop 512 rest → blocks' ≡ blocks ++ b ∷ [] → blocks ++ cut_blocks left rest ≡ blocks' ++ cut_blocks k others
cut_more blocks blocks' b rest others left k some own other pushed =
    ap (λ n. blocks ++ cut_blocks n rest) some
    ∙ ap (λ x. blocks ++ x ∷ cut_blocks k (drop 512 rest)) (sym own)
    ∙ ap (λ xs. blocks ++ b ∷ cut_blocks k xs) (sym other)
    ∙ sym (append_assoc blocks (b ∷ []) (cut_blocks k others))
    ∙ ap (λ bs. bs ++ cut_blocks k others) (sym pushed)

-- the blocks of a volume in the code
abbrev pub blocks_in : Vec (List ℕ) Global → List (List ℕ)
blocks_in blocks = blocks.items

-- the next is refused, or there is no memory for it
pub seen_fault : {A B C D : Type 0} (all : D → List B) (p : A → Reading B) (seen : C → B) (xs : List A) (i : ℕ) (x : A) (front : List B) (start now after after' : Rest) (e : SnapError) → i < length xs → x ≡ get_or xs i x → after_front front (each p (drop i xs) now) ≡ each p xs start → ReadsOrLacks seen (p x) now after (Err e) → ReadsOrLacks all (each p xs) start after' (Err e)
seen_fault all p seen xs i x front start now after after' (Fault fault) inside is left read = sym left ∙ each_fault p front xs i x now fault inside is read
seen_fault all p seen xs i x front start now after after' NoMemory inside is left read = tt

-- what follows for a whole snapshot
pub placed_long : (base : ℕ) (rows : List GuestRow) (gs : List GuestSnap) → ArePlacedSnapshots base rows gs → length gs ≡ length rows
placed_long base [] [] are = refl
placed_long base [] (g ∷ gs) are = absurd are
placed_long base (row ∷ rows) [] are = absurd are
placed_long base (row ∷ rows) (g ∷ gs) are = ap suc (placed_long (base + row.pages) rows gs are.1)

map_twice : {A B C : Type 0} (f : B → C) (g : A → B) (xs : List A) → map (λ x. f (g x)) xs ≡ map f (map g xs)
map_twice f g [] = refl
map_twice f g (x ∷ xs) = ap (λ ys. f (g x) ∷ ys) (map_twice f g xs)

pub running_front : (gs : List GuestSnap) (n : ℕ) (running : List Bool) → length gs ≡ n → running ≡ map (λ g. is_running (snapshot_guest g)) gs ++ replicate (16 - length gs) false → take n running ≡ map is_running (map snapshot_guest gs)
running_front gs n running long is =
    let f : GuestSnap → Bool = λ g. is_running (snapshot_guest g) in
    ap (take n) is ∙ take_at (map f gs) (replicate (16 - length gs) false) n (length-map gs f ∙ long) ∙ map_twice is_running snapshot_guest gs

pub running_back : (gs : List GuestSnap) (n : ℕ) (running : List Bool) → length gs ≡ n → running ≡ map (λ g. is_running (snapshot_guest g)) gs ++ replicate (16 - length gs) false → All (λ runs. runs ≡ false) (drop n running)
running_back gs n running long is =
    let f : GuestSnap → Bool = λ g. is_running (snapshot_guest g) in
    rw (ap (drop n) is ∙ drop_at (map f gs) (replicate (16 - length gs) false) n (length-map gs f ∙ long)) (All-replicate (λ runs. runs ≡ false) (16 - length gs) false refl)
