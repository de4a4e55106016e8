-- Consoles at power-up.
use Rattle.std.proofs.Common.{ℕ, zero, suc, ◌≡◌, ◌<◌, ◌≤◌, ◌+◌, ◌-◌, List, [], ◌∷◌, ◌++◌, length, take, drop, replicate, slice_set, refl, sym, ◌∙◌, ap, subst, arith, Bool, true, false, if◌then◌else◌, Option, None, Some, option_map}
use Rattle.std.proofs.Math.Seq.{drop-append_seam, take-append_seam}
use Rattle.std.proofs.lemmas.List.{length-replicate, length-append}
use Rattle.std.specs.List.{All}
use Rattle.std.specs.Prelude.{IfSome}
use Rattle.std.proofs.lemmas.List.Elements.{All-cons}
use Rattle.sys_objects.specs.declared.records.GuestRow.{GuestRow}
use Rattle.sys_objects.specs.declared.records.Terminal.{Terminal}
use Rattle.sys_system.specs.Seats.{AreSeated}
use Rattle.sys_state.specs.Places.{place_of}
use Rattle.sys_objects.specs.Places.{is_at}
use Rattle.sys_state.specs.Run.{connections}

abbrev first_at : List GuestRow → ℕ → Option ℕ
first_at rows i = place_of (λ row. is_at i row.console) rows

-- the consoles of n terminals from a place on
abbrev pub seats : List GuestRow → ℕ → ℕ → List (Option ℕ)
seats rows i zero = []
seats rows i (suc n) = first_at rows i ∷ seats rows (suc i) n

seats_long : (rows : List GuestRow) (i n : ℕ) → length (seats rows i n) ≡ n
seats_long rows i zero = refl
seats_long rows i (suc n) = ap suc (seats_long rows (suc i) n)

seats_more : (rows : List GuestRow) (i n : ℕ) → seats rows i (n + 1) ≡ seats rows i n ++ first_at rows (i + n) ∷ []
seats_more rows i zero = let e : i + 0 ≡ i = omega arith in ap (λ k. first_at rows k ∷ []) (sym e)
seats_more rows i (suc n) =
    let e : suc n + 1 ≡ suc (n + 1) = omega arith in
    let f : suc i + n ≡ i + suc n = omega arith in
    ap (seats rows i) e ∙ ap (λ xs. first_at rows i ∷ xs) (seats_more rows (suc i) n ∙ ap (λ k. seats rows (suc i) n ++ first_at rows k ∷ []) f)

are_connections : (rows : List GuestRow) (i : ℕ) (ts : List Terminal) → connections rows i ts ≡ seats rows i (length ts)
are_connections rows i [] = refl
are_connections rows i (t ∷ ts) = ap (λ xs. first_at rows i ∷ xs) (are_connections rows (suc i) ts)

-- n terminals have their consoles, and the other places are empty
abbrev pub seated : List GuestRow → ℕ → List (Option ℕ)
seated rows n = seats rows 0 n ++ replicate (32 - n) None

set_after : (xs : List (Option ℕ)) (m : ℕ) (y : Option ℕ) → slice_set (xs ++ replicate (suc m) None) (length xs) y ≡ (xs ++ y ∷ []) ++ replicate m None
set_after [] m y = refl
set_after (x ∷ xs) m y = ap (λ ys. x ∷ ys) (set_after xs m y)

pub seated_next : (rows : List GuestRow) (n : ℕ) → n < 32 → slice_set (seated rows n) n (first_at rows n) ≡ seated rows (n + 1)
seated_next rows n h =
    let left : 32 - n ≡ suc (32 - (n + 1)) = omega (arith, h) in
    let m : ℕ = 32 - (n + 1) in
    let long = seats_long rows 0 n in
    let zero_and : 0 + n ≡ n = omega arith in
    ap (λ k. slice_set (seats rows 0 n ++ replicate k None) n (first_at rows n)) left
    ∙ ap (λ k. slice_set (seats rows 0 n ++ replicate (suc m) None) k (first_at rows n)) (sym long)
    ∙ set_after (seats rows 0 n) m (first_at rows n)
    ∙ ap (λ k. (seats rows 0 n ++ first_at rows k ∷ []) ++ replicate m None) (sym zero_and)
    ∙ ap (λ xs. xs ++ replicate m None) (sym (seats_more rows 0 n))

place_small : (p : GuestRow → Bool) (rows : List GuestRow) → IfSome (place_of p rows) (λ g. g < length rows)
place_small p [] = tt
place_small p (row ∷ rows) = by (p row) (place_of p rows) (place_small p rows)
  where
    by : (b : Bool) (o : Option ℕ) → IfSome o (λ g. g < length rows) → IfSome (if b then Some 0 else option_map suc o) (λ g. g < length (row ∷ rows))
    by true o h = omega arith
    by false None h = tt
    by false (Some g) h = omega (arith, h)

all_none : (Q : Option ℕ → Type 0) (m : ℕ) → Q None → All Q (replicate m None)
all_none Q zero q = λ i d h. absurd (omega (arith, h))
all_none Q (suc m) q = All-cons Q None (replicate m None) q (all_none Q m q)

all_seats : (rows : List GuestRow) (i n m : ℕ) → All (λ o. IfSome o (λ g. g < length rows)) (seats rows i n ++ replicate m None)
all_seats rows i zero m = all_none (λ o. IfSome o (λ g. g < length rows)) m tt
all_seats rows i (suc n) m = All-cons (λ o. IfSome o (λ g. g < length rows)) (first_at rows i) (seats rows (suc i) n ++ replicate m None) (place_small (λ row. is_at i row.console) rows) (all_seats rows (suc i) n m)

pub are_seated : (rows : List GuestRow) (n : ℕ) (at : List (Option ℕ)) → n ≤ 32 → at ≡ seated rows n → AreSeated rows n at
are_seated rows n at few is =
    let empty : List (Option ℕ) = replicate (32 - n) None in
    let long = seats_long rows 0 n in
    let front : take n (seated rows n) ≡ seats rows 0 n = ap (λ k. take k (seated rows n)) (sym long) ∙ take-append_seam (seats rows 0 n) empty in
    let back : drop n (seated rows n) ≡ empty = ap (λ k. drop k (seated rows n)) (sym long) ∙ drop-append_seam (seats rows 0 n) empty in
    record {
      connected = λ ts e. ap (take n) is ∙ front ∙ ap (seats rows 0) (sym e) ∙ sym (are_connections rows 0 ts);
      consoles = subst (λ xs. All (λ o. IfSome o (λ g. g < length rows)) xs) (sym is) (all_seats rows 0 n (32 - n));
      beyond = subst (λ xs. All (λ (o : Option ℕ). o ≡ None) xs) (sym (ap (drop n) is ∙ back)) (all_none (λ o. o ≡ None) (32 - n) refl);
      size = ap length is ∙ length-append (seats rows 0 n) empty ∙ whole;
    }
  where
    whole : length (seats rows 0 n) + length (let none : Option ℕ = None in replicate (32 - n) none) ≡ 32
    whole = omega (arith, seats_long rows 0 n, length-replicate (32 - n) (let none : Option ℕ = None in none), few)
