-- Guests that go on with registers and a memory that were kept, one after another.
use Rattle.std.proofs.Common.{ℕ, zero, suc, ◌≡◌, ◌<◌, ◌≤◌, ◌+◌, ◌-◌, ◌*◌, List, [], ◌∷◌, ◌++◌, length, map, take, drop, replicate, slice_index_or, refl, sym, ◌∙◌, ap, subst, arith, append-nil}
use Rattle.std.proofs.lemmas.List.{length-map}
use Rattle.std.proofs.lemmas.List.Elements.{All-head, All-tail}
use Rattle.std.proofs.lemmas.List.Sums.{sum_by-cons}
use Rattle.std.specs.List.{All, AllZip, sum_by}
use Rattle.sys_guests.proofs.Entering.{ArePutIn, one_put_in, pages_next, pages_within}
use Rattle.sys_guests.proofs.LaidOut.{pages_in}
use Rattle.sys_guests.proofs.Powering.{map_at, placed_as}
use Rattle.sys_guests.specs.Loads.{PlacesOne, PutsIn}
use Rattle.sys_objects.specs.Condition.{IsGuest}
use Rattle.sys_objects.specs.declared.records.GuestRow.{GuestRow}
use Rattle.sys_snap.specs.Held.{ArePlacedSnapshots, snapshot_guest}
use Rattle.sys_snap.specs.Snap.{IsGuestOf}
use Rattle.sys_snap.specs.declared.snap.GuestSnap.{GuestSnap}
use Rattle.vm_guest.specs.Kept.{Kept}
use Rattle.vm_state.specs.Allowed.{AreAllowed}
use Rattle.vm_state.specs.Start.{memory_with_image}
use Rattle.vm_state.specs.State.{HasPlace, state_of}

-- the first of what is left
pub record IsHead {X : Type 0} (xs : List X) (k : ℕ) (x : X) (rest : List X) : Type 0 where
  pub there : k < length xs
  pub read : x ≡ slice_index_or xs k x
  pub left : rest ≡ drop (k + 1) xs

pub head_of : {X : Type 0} (xs : List X) (k : ℕ) (x : X) (rest : List X) → drop k xs ≡ x ∷ rest → IsHead xs k x rest
head_of [] zero x rest is = absurd (omega (arith, ap length is))
head_of [] (suc k) x rest is = absurd (omega (arith, ap length is))
head_of (y ∷ xs) zero x rest is = record { there = omega arith; read = sym (ap (λ zs. slice_index_or zs 0 x) is); left = sym (ap (drop 1) is) }
head_of (y ∷ xs) (suc k) x rest is =
    let next = head_of xs k x rest is in
    let more : suc k + 1 ≡ suc (k + 1) = omega arith in
    record { there = omega (arith, next.there); read = next.read; left = next.left ∙ ap (λ n. drop n (y ∷ xs)) (sym more) }

-- the guest at a place is of the row there, and lies where that says
pub record IsNext (rows : List GuestRow) (base k : ℕ) (snap : GuestSnap) : Type 0 where
  pub row : GuestRow
  pub there : k < length rows
  pub read : row ≡ slice_index_or rows k row
  pub place : HasPlace row.pages (base + sum_by (λ r. r.pages) (take k rows)) row.start snap.state
  pub is : IsGuestOf row (snapshot_guest snap)
  pub guest : IsGuest row

pub next_of : (rows : List GuestRow) (snaps : List GuestSnap) (base k : ℕ) (snap : GuestSnap) → k < length snaps → snap ≡ slice_index_or snaps k snap → ArePlacedSnapshots base rows snaps → AllZip IsGuestOf rows (map snapshot_guest snaps) → All IsGuest rows → IsNext rows base k snap
next_of [] [] base k snap there read places are each = absurd (omega (arith, there))
next_of [] (g ∷ snaps) base k snap there read places are each = absurd places
next_of (row ∷ rows) [] base k snap there read places are each = absurd places
next_of (row ∷ rows) (g ∷ snaps) base zero snap there read places are each =
    let none : base ≡ base + 0 = omega arith in
    record {
      row = row;
      there = omega arith;
      read = refl;
      place = subst (λ n. HasPlace row.pages n row.start snap.state) none (subst (λ (x : GuestSnap). HasPlace row.pages base row.start x.state) (sym read) places.0);
      is = subst (λ (x : GuestSnap). IsGuestOf row (snapshot_guest x)) (sym read) are.0;
      guest = All-head IsGuest row rows each;
    }
next_of (row ∷ rows) (g ∷ snaps) base (suc k) snap there read places are each =
    let next = next_of rows snaps (base + row.pages) k snap (omega (arith, there)) read places.1 are.1 (All-tail IsGuest row rows each) in
    let sum : (base + row.pages) + sum_by (λ r. r.pages) (take k rows) ≡ base + sum_by (λ r. r.pages) (row ∷ take k rows) = omega (arith, sum_by-cons (λ (r : GuestRow). r.pages) row (take k rows)) in
    record {
      row = next.row;
      there = omega (arith, next.there);
      read = next.read;
      place = subst (λ n. HasPlace next.row.pages n next.row.start snap.state) sum next.place;
      is = next.is;
      guest = next.guest;
    }

pub next_in : (rows : List GuestRow) (snaps : List GuestSnap) (k : ℕ) (snap : GuestSnap) (rest : List GuestSnap) → drop k snaps ≡ snap ∷ rest → ArePlacedSnapshots 0 rows snaps → AllZip IsGuestOf rows (map snapshot_guest snaps) → All IsGuest rows → IsNext rows 0 k snap
next_in rows snaps k snap rest left places are each =
    let head = head_of snaps k snap rest left in
    next_of rows snaps 0 k snap head.there head.read places are each

-- there is one for each row
pub as_many_rows : (rows : List GuestRow) (snaps : List GuestSnap) (base : ℕ) → ArePlacedSnapshots base rows snaps → length snaps ≡ length rows
as_many_rows [] [] base places = refl
as_many_rows [] (g ∷ snaps) base places = absurd places
as_many_rows (row ∷ rows) [] base places = absurd places
as_many_rows (row ∷ rows) (g ∷ snaps) base places = ap suc (as_many_rows rows snaps (base + row.pages) places.1)

-- a whole memory is an image from its first byte on
whole_opening : (size : ℕ) (bytes : List ℕ) → length bytes ≡ size → memory_with_image size 0 bytes ≡ bytes
unfolding memory_with_image
whole_opening size bytes long =
    let none : size - (0 + length bytes) ≡ 0 = omega (arith, long) in
    ap (λ n. bytes ++ replicate n 0) none ∙ append-nil bytes

-- k guests are there, of those that were kept
abbrev pub first_page : List GuestRow → ℕ → ℕ
first_page rows k = sum_by (λ r. r.pages) (take k rows)

module _ (rows : List GuestRow) (snaps : List GuestSnap) (k tables : ℕ) (ks : List Kept) (memory : List ℕ) (snap : GuestSnap) (few : length rows ≤ 16) (some_pages : pages_in rows ≤ 16384)
    (put : ArePutIn rows (map snapshot_guest snaps) (pages_in rows) k (first_page rows k) tables ks memory) (next : IsNext rows 0 k snap) where
  abbrev row : GuestRow
  row = next.row

  here : HasPlace row.pages (first_page rows k) row.start snap.state
  here = let same : 0 + first_page rows k ≡ first_page rows k = omega arith in subst (λ n. HasPlace row.pages n row.start snap.state) same next.place

  at : snap.state.base ≡ first_page rows k
  at = omega (arith, next.place.base)

  last : first_page rows (k + 1) ≡ first_page rows k + row.pages
  last = pages_next rows k row next.there next.read

  pub few_pages : snap.state.pages ≤ 2048
  few_pages = omega (arith, next.place.pages, next.guest.few_pages)

  pub in_order : snap.state.base + snap.state.pages ≤ tables
  in_order = omega (arith, at, next.place.pages, last, pages_within rows (k + 1), put.tables_at)

  pub tables_fit : tables + 580 ≤ 32768
  tables_fit = omega (arith, put.tables_at, next.there, few, some_pages)

  pub whole : length snap.memory.items ≡ 512 * snap.state.pages
  whole = next.is.size ∙ ap (λ n. 512 * n) (sym next.place.pages)

  pub are_allowed : AreAllowed (512 * snap.state.pages) (state_of snap.state)
  are_allowed = subst (λ n. AreAllowed (512 * n) (state_of snap.state)) (sym next.place.pages) next.is.is.allowed

  placed : (memory' : List ℕ) (l : Kept) → PutsIn snap.state tables (memory_with_image (512 * snap.state.pages) 0 snap.memory.items) memory memory' l → PlacesOne row (snapshot_guest snap) (first_page rows k) tables memory memory' l
  placed memory' l is =
      placed_as row (snapshot_guest snap) (first_page rows k) tables (memory_with_image (512 * snap.state.pages) 0 snap.memory.items) memory memory' snap.state l
      here next.is.modify_faults (λ i. record { memory = whole_opening (512 * snap.state.pages) snap.memory.items whole i; state = state_of snap.state }) is

  -- one more
  pub one_more : (memory' : List ℕ) (l : Kept) → k < length snaps → snap ≡ slice_index_or snaps k snap → PutsIn snap.state tables (memory_with_image (512 * snap.state.pages) 0 snap.memory.items) memory memory' l
      → ArePutIn rows (map snapshot_guest snaps) (pages_in rows) (k + 1) (first_page rows (k + 1)) (tables + 580) (ks ++ l ∷ []) memory'
  one_more memory' l there read is =
      let long : length (map snapshot_guest snaps) ≡ length snaps = length-map snaps snapshot_guest in
      subst (λ b. ArePutIn rows (map snapshot_guest snaps) (pages_in rows) (k + 1) b (tables + 580) (ks ++ l ∷ []) memory') (sym last)
      (one_put_in rows (map snapshot_guest snaps) (pages_in rows) k (first_page rows k) tables ks memory memory' row (snapshot_guest snap) l refl next.there next.read (omega (arith, there, long)) (map_at snapshot_guest snaps k snap there read) (placed memory' l is) put)
