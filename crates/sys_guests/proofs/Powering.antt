-- How power comes up: which image doesn't fit, and the guests one after another.
use Rattle.std.proofs.Common.{ℕ, zero, suc, ◌≡◌, ◌<◌, ◌≤◌, ◌+◌, ◌-◌, ◌*◌, ◌⊎◌, inl, inr, List, [], ◌∷◌, ◌++◌, length, map, take, drop, slice_index_or, refl, sym, ◌∙◌, ap, subst, arith, Bool, true, false, if◌then◌else◌, Option, Some, None, option_map, append_assoc, length-append}
use Rattle.std.proofs.Math.ListN.{drop_of_length-le}
use Rattle.std.proofs.Math.Seq.{drop-append_seam, take-append_seam}
use Rattle.std.proofs.lemmas.Bool.Decides.{nat_tests}
use Rattle.std.proofs.lemmas.Bool.{cases_lt}
use Rattle.std.proofs.lemmas.List.{get_or_append_left, get_or_at, length-drop, length-take-le, map-append}
use Rattle.std.specs.List.{All}
use Rattle.std.specs.Prelude.{IfOk, OnErr}
use Rattle.std.specs.declared.result.Result.{Result}
use Rattle.std.specs.declared.result.Result.TheVariants.{Ok, Err}
use Rattle.vax_hw.specs.Machine.{Machine}
use Rattle.vv_base.specs.Bytes.{overwritten}
use Rattle.sys_guests.proofs.Images.{opening_length}
use Rattle.sys_guests.specs.Layout.{guests_in}
use Rattle.sys_guests.specs.Loads.{MemoryAlone, OnlyPlaces, PlacesOne, PutsIn, first_misfit, is_misfit}
use Rattle.sys_devices.proofs.Lists.{found_here, found_later, from_on}
use Rattle.sys_objects.specs.declared.records.GuestRow.{GuestRow}
use Rattle.sys_state.specs.Guests.{powered}
use Rattle.sys_state.specs.Places.{beside_with, place_of}
use Rattle.vm_guest.specs.Kept.{IsResumed, Kept, guest_in}
use Rattle.vm_shadow.proofs.Filling.{byte_apart}
use Rattle.vm_shadow.proofs.Writes.{part_same}
use Rattle.vm_shadow.specs.StandsFor.{StandsFor}
use Rattle.vm_state.specs.Partition.{IsApart, guest_of, part}
use Rattle.vm_state.specs.Start.{memory_with_image, started, stopped_at_first}
use Rattle.vm_state.specs.State.{Guest, HasPlace, state_of}
use Rattle.vm_state.specs.declared.guest_state.GuestState.{GuestState}

-- the pair of what is at one place of two lists
pub beside_at : {X Y Z : Type 0} (f : X → Y → Z) (xs : List X) (ys : List Y) (k : ℕ) (x : X) (y : Y) → k < length xs → k < length ys → x ≡ slice_index_or xs k x → y ≡ slice_index_or ys k y → f x y ≡ slice_index_or (beside_with f xs ys) k (f x y)
beside_at f [] ys k x y h h' read read' = absurd (omega (arith, h))
beside_at f (a ∷ xs) [] k x y h h' read read' = absurd (omega (arith, h'))
beside_at f (a ∷ xs) (b ∷ ys) zero x y h h' read read' = λ i. f (read i) (read' i)
beside_at f (a ∷ xs) (b ∷ ys) (suc k) x y h h' read read' = beside_at f xs ys k x y (omega (arith, h)) (omega (arith, h')) read read'

pub beside_long : {X Y Z : Type 0} (f : X → Y → Z) (xs : List X) (ys : List Y) → length xs ≡ length ys → length (beside_with f xs ys) ≡ length xs
beside_long f [] ys h = refl
beside_long f (x ∷ xs) [] h = absurd (omega (arith, h))
beside_long f (x ∷ xs) (y ∷ ys) h = ap suc (beside_long f xs ys (omega (arith, h)))

pub map_at : {X Y : Type 0} (f : X → Y) (xs : List X) (k : ℕ) (x : X) → k < length xs → x ≡ slice_index_or xs k x → f x ≡ slice_index_or (map f xs) k (f x)
map_at f [] k x h read = absurd (omega (arith, h))
map_at f (y ∷ xs) zero x h read = ap f read
map_at f (y ∷ xs) (suc k) x h read = map_at f xs k x (omega (arith, h)) read

-- the first misfit is here, or later
abbrev misfits : List GuestRow → List (List ℕ) → List Bool
misfits rows images = beside_with is_misfit rows images

misfit_at : (rows : List GuestRow) (images : List (List ℕ)) (k : ℕ) (row : GuestRow) (image : List ℕ) (b : Bool) → k < length rows → k < length images → row ≡ slice_index_or rows k row → image ≡ slice_index_or images k image → b ≡ is_misfit row image → b ≡ slice_index_or (misfits rows images) k b
misfit_at rows images k row image b h h' read read' is = subst (λ x. x ≡ slice_index_or (misfits rows images) k x) (sym is) (beside_at is_misfit rows images k row image h h' read read')

pub misfit_here : (rows : List GuestRow) (images : List (List ℕ)) (k : ℕ) (row : GuestRow) (image : List ℕ) (b : Bool) → k < length rows → length images ≡ length rows → row ≡ slice_index_or rows k row → image ≡ slice_index_or images k image → b ≡ is_misfit row image → b ≡ true → from_on (λ x. x) (beside_with is_misfit rows images) k ≡ Some k
misfit_here rows images k row image b h long read read' is bad =
    let size : length (misfits rows images) ≡ length rows = beside_long is_misfit rows images (sym long) in
    found_here (λ x. x) (misfits rows images) k b (omega (arith, h, size)) (misfit_at rows images k row image b h (omega (arith, h, long)) read read' is) bad

pub misfit_later : (rows : List GuestRow) (images : List (List ℕ)) (k : ℕ) (row : GuestRow) (image : List ℕ) (b : Bool) → k < length rows → length images ≡ length rows → row ≡ slice_index_or rows k row → image ≡ slice_index_or images k image → b ≡ is_misfit row image → b ≡ false → from_on (λ x. x) (beside_with is_misfit rows images) k ≡ from_on (λ x. x) (beside_with is_misfit rows images) (k + 1)
misfit_later rows images k row image b h long read read' is good =
    let size : length (misfits rows images) ≡ length rows = beside_long is_misfit rows images (sym long) in
    found_later (λ x. x) (misfits rows images) k b (omega (arith, h, size)) (misfit_at rows images k row image b h (omega (arith, h, long)) read read' is) good

pub misfit_none : (rows : List GuestRow) (images : List (List ℕ)) (k : ℕ) → length rows ≤ k → length images ≡ length rows → from_on (λ x. x) (beside_with is_misfit rows images) k ≡ None
misfit_none rows images k h long =
    let size : length (misfits rows images) ≡ length rows = beside_long is_misfit rows images (sym long) in
    let all : drop k (misfits rows images) ≡ [] = drop_of_length-le (misfits rows images) (omega (arith, h, size)) in
    ap (λ xs. option_map (λ n. k + n) (place_of (λ x. x) xs)) all

none_passes : (bs : List Bool) (k : ℕ) (b : Bool) → place_of (λ x. x) bs ≡ None → k < length bs → b ≡ slice_index_or bs k b → b ≡ false
none_passes [] k b none h read = absurd (omega (arith, h))
none_passes (true ∷ bs) k b none h read = absurd (some_none none)
  where
    some_none : (let x : Option ℕ = Some 0 in x ≡ None) → ⊥
    some_none e = cc
none_passes (false ∷ bs) zero b none h read = read
none_passes (false ∷ bs) (suc k) b none h read = none_passes bs k b (un_suc (place_of (λ x. x) bs) none) (omega (arith, h)) read
  where
    un_suc : (o : Option ℕ) → option_map suc o ≡ None → o ≡ None
    un_suc None e = refl
    un_suc (Some n) e = cc

-- where none is a misfit each image fits
pub each_fits : (rows : List GuestRow) (images : List (List ℕ)) (k : ℕ) (row : GuestRow) (image : List ℕ) → first_misfit rows images ≡ None → k < length rows → length images ≡ length rows → row ≡ slice_index_or rows k row → image ≡ slice_index_or images k image → row.load + length image ≤ 512 * row.pages
each_fits rows images k row image none h long read read' =
    let size : length (misfits rows images) ≡ length rows = beside_long is_misfit rows images (sym long) in
    let good : is_misfit row image ≡ false = none_passes (misfits rows images) k (is_misfit row image) none (omega (arith, h, size)) (misfit_at rows images k row image (is_misfit row image) h (omega (arith, h, long)) read read' refl) in
    grind (arith, nat_tests, good)

-- bytes are written over as many
front_size : (memory : List ℕ) (at size : ℕ) → at + size ≤ length memory → length (take at memory) ≡ at
front_size memory at size h = length-take-le at memory (omega (arith, h))

pub overwritten_apart : (memory : List ℕ) (at : ℕ) (bytes : List ℕ) → at + length bytes ≤ length memory → IsApart at (length bytes) memory (overwritten memory at bytes)
overwritten_apart memory at bytes h =
    let n : ℕ = length bytes in
    let rest : List ℕ = drop (at + n) memory in
    let front : length (take at memory) ≡ at = front_size memory at n h in
    let written : length (take at memory ++ bytes) ≡ at + n = length-append (take at memory) bytes ∙ ap (λ m. m + n) front in
    let whole : length ((take at memory ++ bytes) ++ rest) ≡ length (take at memory ++ bytes) + length rest = length-append (take at memory ++ bytes) rest in
    let left : length rest ≡ length memory - (at + n) = length-drop (at + n) memory in
    record {
      front = ap (take at) (append_assoc (take at memory) bytes rest) ∙ ap (λ m. take m (take at memory ++ (bytes ++ rest))) (sym front) ∙ take-append_seam (take at memory) (bytes ++ rest);
      back = ap (λ m. drop m ((take at memory ++ bytes) ++ rest)) (sym written) ∙ drop-append_seam (take at memory ++ bytes) rest;
      size = omega (arith, whole, written, left, h);
    }

pub part_overwritten : (memory : List ℕ) (at : ℕ) (bytes : List ℕ) → at + length bytes ≤ length memory → part (overwritten memory at bytes) at (length bytes) ≡ bytes
part_overwritten memory at bytes h =
    let rest : List ℕ = drop (at + length bytes) memory in
    let front : length (take at memory) ≡ at = front_size memory at (length bytes) h in
    ap (λ xs. part xs at (length bytes)) (append_assoc (take at memory) bytes rest)
    ∙ ap (λ m. take (length bytes) (drop m (take at memory ++ (bytes ++ rest)))) (sym front)
    ∙ ap (take (length bytes)) (drop-append_seam (take at memory) (bytes ++ rest))
    ∙ take-append_seam bytes rest

pub beside_more : {X Y Z : Type 0} (f : X → Y → Z) (xs : List X) (ys : List Y) (x : X) (y : Y) → length xs ≡ length ys → beside_with f (xs ++ x ∷ []) (ys ++ y ∷ []) ≡ beside_with f xs ys ++ f x y ∷ []
beside_more f [] [] x y h = refl
beside_more f [] (b ∷ ys) x y h = absurd (omega (arith, h))
beside_more f (a ∷ xs) [] x y h = absurd (omega (arith, h))
beside_more f (a ∷ xs) (b ∷ ys) x y h = ap (λ zs. f a b ∷ zs) (beside_more f xs ys x y (omega (arith, h)))

pub guests_more : (memory : List ℕ) (ks : List Kept) (k : Kept) → guests_in memory (ks ++ k ∷ []) ≡ guests_in memory ks ++ guest_in memory k ∷ []
guests_more memory ks k = map-append (guest_in memory) ks (k ∷ [])

pub all_more : {X : Type 0} (Q : X → Type 0) (xs : List X) (x : X) → All Q xs → Q x → All Q (xs ++ x ∷ [])
all_more Q xs x all one i d h = by (cases_lt i (length xs))
  where
    by : (i < length xs) ⊎ (length xs ≤ i) → Q (slice_index_or (xs ++ x ∷ []) i d)
    by (inl lt) = subst Q (sym (get_or_append_left xs (x ∷ []) d i lt)) (all i d lt)
    by (inr le) = subst Q (sym (get_or_at xs x [] d i (sym (last i le h)))) one
      where
        last : (i : ℕ) → length xs ≤ i → i < length (xs ++ x ∷ []) → i ≡ length xs
        last i le h = omega (arith, le, h, length-append xs (x ∷ []))

-- an image lies in a guest's pages, and no other byte changes
image_part : (pages load : ℕ) (image : List ℕ) (base : ℕ) (before : List ℕ) → load + length image ≤ 512 * pages → 512 * base + 512 * pages ≤ length before → part (overwritten before (512 * base) (memory_with_image (512 * pages) load image)) (512 * base) (512 * pages) ≡ memory_with_image (512 * pages) load image
image_part pages load image base before fits inside =
    let xs = memory_with_image (512 * pages) load image in
    let long : length xs ≡ 512 * pages = opening_length (512 * pages) load image fits in
    ap (λ n. part (overwritten before (512 * base) xs) (512 * base) n) (sym long) ∙ part_overwritten before (512 * base) xs (omega (arith, long, inside))

image_apart : (pages load : ℕ) (image : List ℕ) (base : ℕ) (before : List ℕ) → load + length image ≤ 512 * pages → 512 * base + 512 * pages ≤ length before → IsApart (512 * base) (512 * pages) before (overwritten before (512 * base) (memory_with_image (512 * pages) load image))
image_apart pages load image base before fits inside =
    let xs = memory_with_image (512 * pages) load image in
    let long : length xs ≡ 512 * pages = opening_length (512 * pages) load image fits in
    subst (λ n. IsApart (512 * base) n before (overwritten before (512 * base) xs)) long (overwritten_apart before (512 * base) xs (omega (arith, long, inside)))

-- a guest's pages lie before its tables, and hold this image
pub record HasImage (base pages load tables : ℕ) (image : List ℕ) (m m' : Machine) : Type 0 where
  pub fits : load + length image ≤ 512 * pages
  pub order : base + pages ≤ tables
  pub inside : 512 * base + 512 * pages ≤ length m.memory
  pub loaded : m' ≡ record m { memory = overwritten m.memory (512 * base) (memory_with_image (512 * pages) load image) }

module _ (state : GuestState) (load tables : ℕ) (image : List ℕ) (m m1 : Machine) (has : HasImage state.base state.pages load tables image m m1) where
  loaded_memory : m1.memory ≡ overwritten m.memory (512 * state.base) (memory_with_image (512 * state.pages) load image)
  loaded_memory = ap (λ (x : Machine). x.memory) has.loaded

  apart : IsApart (512 * state.base) (512 * state.pages) m.memory m1.memory
  apart = subst (λ ys. IsApart (512 * state.base) (512 * state.pages) m.memory ys) (sym loaded_memory) (image_apart state.pages load image state.base m.memory has.fits has.inside)

  alone_loaded : MemoryAlone m m1
  alone_loaded = record { rest = has.loaded ∙ (λ i. record m { memory = sym loaded_memory i }); size = apart.size }

  module _ (m2 : Machine) (k : Kept) (resumed : IsResumed state tables m1 m2 k) where
    only_made : OnlyPlaces state.base state.pages tables m.memory m2.memory
    only_made = record {
      size = resumed.made.only.tables.size ∙ apart.size;
      other = λ p beyond later.
          byte_apart (512 * tables) (512 * 580) m1.memory m2.memory p resumed.made.only.tables (split_last p later)
          ∙ byte_apart (512 * state.base) (512 * state.pages) m.memory m1.memory p apart (split_first p beyond);
    }
      where
        split_last : (p : ℕ) → (p < 512 * tables) ⊎ (512 * (tables + 580) ≤ p) → (p < 512 * tables) ⊎ (512 * tables + 512 * 580 ≤ p)
        split_last p (inl h) = inl h
        split_last p (inr h) = inr (omega (arith, h))

        split_first : (p : ℕ) → (p < 512 * state.base) ⊎ (512 * (state.base + state.pages) ≤ p) → (p < 512 * state.base) ⊎ (512 * state.base + 512 * state.pages ≤ p)
        split_first p (inl h) = inl h
        split_first p (inr h) = inr (omega (arith, h))

    pub puts_in : PutsIn state tables (memory_with_image (512 * state.pages) load image) m.memory m2.memory k
    puts_in =
        let inside : 512 * state.base + 512 * state.pages ≤ length m1.memory = omega (arith, has.inside, apart.size) in
        record {
          state = resumed.state;
          tables = resumed.made.place;
          holds =
              part_same m1.memory m2.memory (512 * state.base) (512 * state.pages) resumed.made.only.tables.size inside (λ p low high. byte_apart (512 * tables) (512 * 580) m1.memory m2.memory p resumed.made.only.tables (inl (omega (arith, high, has.order))))
              ∙ ap (λ ys. part ys (512 * state.base) (512 * state.pages)) loaded_memory ∙ image_part state.pages load image state.base m.memory has.fits has.inside;
          stands = subst (λ g. StandsFor m2.memory k.shadow g) (sym resumed.state) resumed.made.stands;
          only = only_made;
        }

    alone_made : MemoryAlone m m2
    alone_made = record {
      rest = resumed.made.only.rest ∙ (λ i. record (has.loaded i) { memory = m2.memory });
      size = only_made.size;
    }

  -- whether a guest was made or memory ran out
  pub alone_placed : {E : Type 0} (m2 : Machine) (r : Result Kept E) → IfOk r (IsResumed state tables m1 m2) → OnErr r (m2 ≡ m1) → MemoryAlone m m2
  alone_placed m2 (Ok k) resumed same = alone_made m2 k resumed
  alone_placed m2 (Err e) resumed same = subst (λ (x : Machine). MemoryAlone m x) (sym same) alone_loaded

-- a guest at power-up has modify faults where its row says so
pub powered_faults : (row : GuestRow) → (powered row []).state.modify_faults ≡ row.modify_faults
powered_faults row = by row.autostart
  where
    by : (b : Bool) → (if b then started row.start row.modify_faults else stopped_at_first row.start row.modify_faults).modify_faults ≡ row.modify_faults
    by true = refl
    by false = refl

-- so the guest of a row is this one
pub placed_as : (row : GuestRow) (h : Guest) (base tables : ℕ) (bytes memory memory' : List ℕ) (state : GuestState) (k : Kept) → HasPlace row.pages base row.start state → (state_of state).modify_faults ≡ row.modify_faults → record { memory = bytes; state = state_of state } ≡ h → PutsIn state tables bytes memory memory' k → PlacesOne row h base tables memory memory' k
placed_as row h base tables bytes memory memory' state k place faults is put = record {
  placed = record {
    base = ap (λ (g : GuestState). g.base) put.state ∙ place.base;
    tables = put.tables;
    pages = ap (λ (g : GuestState). g.pages) put.state ∙ place.pages;
    start = ap (λ (g : GuestState). g.start) put.state ∙ place.start;
    modify_faults = ap (λ (g : GuestState). g.modify_faults) put.state ∙ faults;
  };
  guest = ap (guest_of memory') put.state ∙ (λ i. record { memory = put.holds i; state = state_of state }) ∙ is;
  stands = put.stands;
  only = subst (λ n. OnlyPlaces n row.pages tables memory memory') place.base (subst (λ n. OnlyPlaces state.base n tables memory memory') place.pages put.only);
}

pub alone_then : (m m' m'' : Machine) → MemoryAlone m m' → MemoryAlone m' m'' → MemoryAlone m m''
alone_then m m' m'' a b = record { rest = b.rest ∙ (λ i. record (a.rest i) { memory = m''.memory }); size = b.size ∙ a.size }

pub alone_still : (m : Machine) → MemoryAlone m m
alone_still m = record { rest = refl; size = refl }
