-- How the guests of a configuration come into the machine, one after another.
use Rattle.std.proofs.Common.{ℕ, zero, suc, ◌≡◌, ◌<◌, ◌≤◌, ◌+◌, ◌-◌, ◌*◌, inl, inr, List, [], ◌∷◌, ◌++◌, length, take, slice_index_or, refl, sym, ◌∙◌, ap, subst, arith, add_assoc}
use Rattle.std.proofs.lemmas.Grind.{common_steps}
use Rattle.std.proofs.lemmas.List.{take_all}
use Rattle.std.proofs.lemmas.List.Elements.{All-nil}
use Rattle.std.proofs.lemmas.List.Sums.{sum_by-cons}
use Rattle.std.specs.List.{All, sum_by}
use Rattle.sys_guests.proofs.LaidOut.{IsWithin, pages_in, placed_at, placed_more}
use Rattle.sys_guests.proofs.Lists.{all_same, map_same, one_of_all}
use Rattle.sys_guests.specs.Layout.{AreInMachine, ArePlaced, IsPlaced, guests_in}
use Rattle.sys_guests.specs.Loads.{OnlyPlaces}
use Rattle.sys_objects.specs.declared.records.GuestRow.{GuestRow}
use Rattle.vm_guest.proofs.Sharing.{stands_elsewhere}
use Rattle.vm_guest.specs.Kept.{IsShadowedIn, Kept, guest_in}
use Rattle.vm_state.specs.State.{Guest}
use Rattle.sys_guests.proofs.Powering.{all_more, guests_more}
use Rattle.sys_guests.specs.Loads.{PlacesOne}

-- The guests of the first rows are placed, and are the first of these.
pub record ArePutIn (rows : List GuestRow) (hs : List Guest) (all k base tables : ℕ) (ks : List Kept) (memory : List ℕ) : Type 0 where
  pub at : base ≡ sum_by (λ row. row.pages) (take k rows)
  pub tables_at : tables ≡ all + 580 * k
  pub placed : ArePlaced 0 all (take k rows) ks
  pub stand : All (λ l. IsShadowedIn memory l) ks
  pub are : guests_in memory ks ≡ take k hs

pub none_put_in : (rows : List GuestRow) (hs : List Guest) (all : ℕ) (memory : List ℕ) → ArePutIn rows hs all 0 0 all [] memory
none_put_in rows hs all memory = record { at = refl; tables_at = omega arith; placed = tt; stand = All-nil (λ l. IsShadowedIn memory l); are = refl }

take_more : {X : Type 0} (xs : List X) (k : ℕ) (x : X) → k < length xs → x ≡ slice_index_or xs k x → take (k + 1) xs ≡ take k xs ++ x ∷ []
take_more [] k x h read = absurd (omega (arith, h))
take_more (y ∷ xs) zero x h read = ap (λ z. z ∷ []) (sym read)
take_more (y ∷ xs) (suc k) x h read = let e : suc k + 1 ≡ suc (k + 1) = omega arith in rw e (ap (λ zs. y ∷ zs) (take_more xs k x (omega (arith, h)) read))

sum_more : (xs : List GuestRow) (x : GuestRow) → sum_by (λ row. row.pages) (xs ++ x ∷ []) ≡ sum_by (λ row. row.pages) xs + x.pages
sum_more [] x = refl
sum_more (y ∷ xs) x =
    let f : GuestRow → ℕ = λ row. row.pages in
    sum_by-cons f y (xs ++ x ∷ []) ∙ ap (λ n. y.pages + n) (sum_more xs x) ∙ sym (add_assoc y.pages (sum_by f xs) x.pages) ∙ ap (λ n. n + x.pages) (sym (sum_by-cons f y xs))

take_long : {X : Type 0} (k : ℕ) (xs : List X) → k ≤ length xs → length (take k xs) ≡ k
take_long k xs h = grind (arith, common_steps)

-- how many pages the first rows have, and one more
pub pages_next : (rows : List GuestRow) (k : ℕ) (row : GuestRow) → k < length rows → row ≡ slice_index_or rows k row → sum_by (λ r. r.pages) (take (k + 1) rows) ≡ sum_by (λ r. r.pages) (take k rows) + row.pages
pages_next rows k row h read = ap (sum_by (λ (r : GuestRow). r.pages)) (take_more rows k row h read) ∙ sum_more (take k rows) row

-- they are at most all
pub pages_within : (rows : List GuestRow) (k : ℕ) → sum_by (λ r. r.pages) (take k rows) ≤ sum_by (λ r. r.pages) rows
pages_within rows zero = omega arith
pages_within [] (suc k) = omega arith
pages_within (row ∷ rows) (suc k) =
    let f : GuestRow → ℕ = λ r. r.pages in
    omega (arith, pages_within rows k, sum_by-cons f row (take k rows), sum_by-cons f row rows)

-- those that are there stay as they are
still_there : (rows : List GuestRow) (hs : List Guest) (all i base tables pages : ℕ) (ks : List Kept) (memory memory' : List ℕ) → base + pages ≤ all → i ≤ length rows → ArePutIn rows hs all i base tables ks memory → OnlyPlaces base pages tables memory memory'
    → (j : ℕ) (l : Kept) → j < length ks → l ≡ slice_index_or ks j l → IsShadowedIn memory' l × (guest_in memory' l ≡ guest_in memory l)
still_there rows hs all i base tables pages ks memory memory' few within before only j l h read =
    let stands = one_of_all (λ (y : Kept). IsShadowedIn memory y) ks j l h read before.stand in
    let s = stands.serves in
    let at : IsWithin 0 all (take i rows) l = placed_at 0 all (take i rows) ks j l h read before.placed in
    let long : length (take i rows) ≡ i = take_long i rows within in
    let high : l.state.base + l.state.pages ≤ base = omega (arith, at.high, before.at) in
    let last : l.shadow.at + 580 ≤ tables = omega (arith, at.last, long, before.tables_at) in
    stands_elsewhere l memory memory' stands (record {
      size = only.size;
      own = λ p from to. only.other p (inl (omega (arith, to, high, s.base, s.pages))) (inl (omega (arith, to, high, few, before.tables_at, s.base, s.pages)));
      tables = λ p from to. only.other p (inr (omega (arith, from, at.first, few))) (inl (omega (arith, to, last)));
    })

-- one guest more is there
pub one_put_in : (rows : List GuestRow) (hs : List Guest) (all i base tables : ℕ) (ks : List Kept) (memory memory' : List ℕ) (row : GuestRow) (h : Guest) (k : Kept) → all ≡ pages_in rows → i < length rows → row ≡ slice_index_or rows i row → i < length hs → h ≡ slice_index_or hs i h
    → PlacesOne row h base tables memory memory' k → ArePutIn rows hs all i base tables ks memory → ArePutIn rows hs all (i + 1) (base + row.pages) (tables + 580) (ks ++ k ∷ []) memory'
one_put_in rows hs all i base tables ks memory memory' row h k whole there read there' read' one before =
    let rows' : take (i + 1) rows ≡ take i rows ++ row ∷ [] = take_more rows i row there read in
    let hs' : take (i + 1) hs ≡ take i hs ++ h ∷ [] = take_more hs i h there' read' in
    let long : length (take i rows) ≡ i = take_long i rows (omega (arith, there)) in
    let next = pages_next rows i row there read in
    let fits : base + row.pages ≤ all = omega (arith, whole, before.at, next, pages_within rows (i + 1)) in
    let first : base ≡ 0 + sum_by (λ r. r.pages) (take i rows) = omega (arith, before.at) in
    let table : tables ≡ all + 580 * length (take i rows) = before.tables_at ∙ ap (λ n. all + 580 * n) (sym long) in
    let here : IsPlaced row (0 + sum_by (λ r. r.pages) (take i rows)) (all + 580 * length (take i rows)) k = subst (λ n. IsPlaced row n (all + 580 * length (take i rows)) k) first (subst (λ n. IsPlaced row base n k) table one.placed) in
    let stays = still_there rows hs all i base tables row.pages ks memory memory' fits (omega (arith, there)) before one.only in
    let others : guests_in memory' ks ≡ guests_in memory ks = map_same (guest_in memory) (guest_in memory') ks (λ j l m e. (stays j l m e).1) in
    record {
      at = omega (arith, before.at, next);
      tables_at = omega (arith, before.tables_at);
      placed = subst (λ xs. ArePlaced 0 all xs (ks ++ k ∷ [])) (sym rows') (placed_more 0 all (take i rows) ks row k before.placed here);
      stand = all_more (λ (l : Kept). IsShadowedIn memory' l) ks k (all_same (λ (l : Kept). IsShadowedIn memory' l) ks (λ j l m e. (stays j l m e).0)) one.stands;
      are = guests_more memory' ks k ∙ (λ j. (others ∙ before.are) j ++ one.guest j ∷ []) ∙ sym hs';
    }

-- all of them are
pub all_put_in : (rows : List GuestRow) (hs : List Guest) (all i base tables : ℕ) (ks : List Kept) (memory : List ℕ) → all ≡ pages_in rows → length rows ≤ i → length hs ≡ length rows → length rows ≤ 16 → pages_in rows ≤ 16384 → ArePutIn rows hs all i base tables ks memory → AreInMachine rows memory ks × (guests_in memory ks ≡ hs)
all_put_in rows hs all i base tables ks memory whole ends long few some_pages done =
    let rows' : take i rows ≡ rows = take_all i rows ends in
    let hs' : take i hs ≡ hs = take_all i hs (omega (arith, ends, long)) in (
      record {
        few = few;
        some_pages = some_pages;
        laid_out = subst (λ n. ArePlaced 0 n rows ks) whole (subst (λ xs. ArePlaced 0 all xs ks) rows' done.placed);
        stand = done.stand;
      },
      done.are ∙ hs',
    )
