-- Slices one after another: what one more adds to them.
use Rattle.std.proofs.Common.{ℕ, zero, suc, ◌≡◌, ◌<◌, ◌≤◌, ◌+◌, ◌-◌, List, [], ◌∷◌, ◌++◌, length, map, take, slice_index, slice_index_or, refl, sym, ◌∙◌, ap, arith, append_assoc, append-nil, Bool, true, false, true≢false, if◌then◌else◌, ◌==◌, Option}
use Rattle.std.proofs.lemmas.Bool.{eq-eqb, eqb-true, ne_eqb}
use Rattle.std.proofs.lemmas.List.{map-append, take_more}
use Rattle.std.proofs.lemmas.List.Sums.{sum_by-cons}
use Rattle.std.specs.List.{slice_get}
use Rattle.std.specs.Prelude.{sum}
use Rattle.vax_hw.specs.Machine.{Machine}
use Rattle.sys_guests.specs.Changes.{Retires}
use Rattle.sys_guests.specs.declared.turns.TimeSlice.{TimeSlice}
use Rattle.sys_objects.specs.declared.records.GuestRow.{GuestRow}
use Rattle.sys_objects.specs.declared.records.Terminal.{Terminal}
use Rattle.sys_system.specs.System.{slice_of_time}
use Rattle.sys_state.proofs.Additions.{added_either, added_twice}
use Rattle.sys_state.proofs.Places.{both}
use Rattle.sys_state.specs.Counts.{added, slices_tally, tally_by}
use Rattle.sys_state.specs.Guests.{alone}
use Rattle.sys_state.specs.Places.{changed}
use Rattle.sys_state.specs.Slices.{AreQuanta, Slice, sliced, slices, total}
use Rattle.sys_state.specs.State.{Put}
use Rattle.vm_state.specs.Run.{Tally}
use Rattle.vm_state.specs.State.{Guest}

-- one slice more
pub now_more : (ks : List Terminal) (os : List (Option ℕ)) (xs : List Slice) (x : Slice) (gs : List Guest) → (slices ks os (xs ++ x ∷ []) gs).now ≡ (sliced ks os x (slices ks os xs gs).now).now
now_more ks os [] x gs = refl
now_more ks os (y ∷ xs) x gs = now_more ks os xs x (sliced ks os y gs).now

pub puts_more : (ks : List Terminal) (os : List (Option ℕ)) (xs : List Slice) (x : Slice) (gs : List Guest) → (slices ks os (xs ++ x ∷ []) gs).puts ≡ (slices ks os xs gs).puts ++ (sliced ks os x (slices ks os xs gs).now).puts
puts_more ks os [] x gs = append-nil (sliced ks os x gs).puts
puts_more ks os (y ∷ xs) x gs =
    let first = sliced ks os y gs in
    ap (λ (ps : List Put). first.puts ++ ps) (puts_more ks os xs x first.now) ∙ sym (append_assoc first.puts (slices ks os xs first.now).puts (sliced ks os x (slices ks os xs first.now).now).puts)

pub tally_more : (ks : List Terminal) (os : List (Option ℕ)) (xs : List Slice) (x : Slice) (gs : List Guest) → slices_tally (xs ++ x ∷ []) gs ≡ added (slices_tally xs gs) (tally_by x.steps (slice_get (slices ks os xs gs).now x.guest))
tally_more ks os [] x gs = added_either (tally_by x.steps (slice_get gs x.guest))
tally_more ks os (y ∷ xs) x gs =
    let next : List Guest = changed (λ (g : Guest). (alone y.steps g).guest) gs y.guest in
    let one = tally_by y.steps (slice_get gs y.guest) in
    ap (added one) (tally_more ks os xs x next) ∙ sym (added_twice one (slices_tally xs next) (tally_by x.steps (slice_get (slices ks os xs next).now x.guest)))

-- what the guest at a place takes of a slice
abbrev pub taken : Slice → ℕ → ℕ
taken x i = if i == x.guest then x.steps else 0

pub total_more : (xs : List Slice) (x : Slice) (i : ℕ) → total (xs ++ x ∷ []) i ≡ total xs i + taken x i
total_more [] x i = by (i == x.guest)
  where
    by : (b : Bool) → (if b then x.steps + 0 else 0) ≡ 0 + (if b then x.steps else 0)
    by true = omega arith
    by false = refl
total_more (y ∷ xs) x i = by (i == y.guest) (total xs i) (total (xs ++ x ∷ []) i) (taken x i) (total_more xs x i)
  where
    by : (b : Bool) (m n k : ℕ) → n ≡ m + k → (if b then y.steps + n else n) ≡ (if b then y.steps + m else m) + k
    by true m n k e = omega (arith, e)
    by false m n k e = e

same_suc : (i k : ℕ) → (suc i == suc k) ≡ (i == k)
same_suc i k = both (i == k) (λ e. eq-eqb (suc i) (suc k) (ap suc (eqb-true i k e)) ∙ sym e) (λ e. ne_eqb (suc i) (suc k) (λ q. true≢false (sym (eq-eqb i k (omega (arith, q))) ∙ e)) ∙ sym e)

pub left_falls : (xs : List ℕ) (k n i : ℕ) → n ≤ slice_index xs k → slice_index (changed (λ y. y - n) xs k) i + (if i == k then n else 0) ≡ slice_index xs i
left_falls [] k n i h = by (i == k) (omega (arith, h))
  where
    by : (b : Bool) → n ≡ 0 → 0 + (if b then n else 0) ≡ 0
    by true e = omega (arith, e)
    by false e = refl
left_falls (x ∷ xs) zero n zero h = omega (arith, h)
left_falls (x ∷ xs) zero n (suc i) h = let e : (suc i == 0) ≡ false = ne_eqb (suc i) 0 (λ q. omega (arith, q)) in rw e (omega arith)
left_falls (x ∷ xs) (suc k) n zero h = let e : (0 == suc k) ≡ false = ne_eqb 0 (suc k) (λ q. omega (arith, q)) in rw e (omega arith)
left_falls (x ∷ xs) (suc k) n (suc i) h = ap (λ b. slice_index (changed (λ y. y - n) xs k) i + (if b then n else 0)) (same_suc i k) ∙ left_falls xs k n i h

pub retires_then : (m m' m'' : Machine) (t u : Tally) → Retires m m' t → Retires m' m'' u → Retires m m'' (added t u)
retires_then m m' m'' t u a b = record { retired = omega (arith, a.retired, b.retired); trail = omega (arith, a.trail, b.trail) }

-- each guest took its quantum
pub quanta_of : (xs : List Slice) (n : ℕ) (rows : List GuestRow) → ((i : ℕ) → total xs (n + i) ≡ slice_index (map (λ row. row.quantum) rows) i) → AreQuanta xs n rows
quanta_of xs n [] h = tt
quanta_of xs n (row ∷ rows) h =
    let first : n + 0 ≡ n = omega arith in
    (ap (total xs) (sym first) ∙ h 0, quanta_of xs (suc n) rows (λ i. let e : suc n + i ≡ n + suc i = omega arith in ap (total xs) e ∙ h (suc i)))

-- the quantum of a guest is what it takes in all
pub quantum_at : (xs : List Slice) (n : ℕ) (rows : List GuestRow) (i : ℕ) → AreQuanta xs n rows → i < length rows → total xs (n + i) ≡ slice_index (map (λ row. row.quantum) rows) i
quantum_at xs n [] i q h = absurd (omega (arith, h))
quantum_at xs n (row ∷ rows) zero q h = let e : n + 0 ≡ n = omega arith in ap (total xs) e ∙ q.0
quantum_at xs n (row ∷ rows) (suc i) q h = let e : n + suc i ≡ suc n + i = omega arith in ap (total xs) e ∙ quantum_at xs (suc n) rows i q.1 (omega (arith, h))

pub quantum_is : (xs : List Slice) (rows : List GuestRow) (i : ℕ) → AreQuanta xs 0 rows → i < length rows → total xs i ≡ slice_index (map (λ row. row.quantum) rows) i
quantum_is xs rows i q h = let e : i ≡ 0 + i = omega arith in ap (total xs) e ∙ quantum_at xs 0 rows i q h

-- a front takes no more than all
pub front_takes : (xs ys : List Slice) (i : ℕ) → total xs i ≤ total (xs ++ ys) i
front_takes [] ys i = omega arith
front_takes (x ∷ xs) ys i = by (i == x.guest) (total xs i) (total (xs ++ ys) i) (front_takes xs ys i)
  where
    by : (b : Bool) (m n : ℕ) → m ≤ n → (if b then x.steps + m else m) ≤ (if b then x.steps + n else n)
    by true m n h = omega (arith, h)
    by false m n h = h

-- the slices up to a place, and the one there
pub slices_more : (pieces : List TimeSlice) (i : ℕ) (piece : TimeSlice) → i < length pieces → piece ≡ slice_index_or pieces i piece → map slice_of_time (take (i + 1) pieces) ≡ map slice_of_time (take i pieces) ++ slice_of_time piece ∷ []
slices_more pieces i piece h read = ap (map slice_of_time) (take_more pieces i piece h ∙ ap (λ (t : TimeSlice). take i pieces ++ t ∷ []) (sym read)) ∙ map-append slice_of_time (take i pieces) (piece ∷ [])

-- numbers of which one falls
pub falls : (xs : List ℕ) (k n : ℕ) → n ≤ slice_index xs k → sum (changed (λ x. x - n) xs k) + n ≡ sum xs
falls [] k n h = omega (arith, h)
falls (x ∷ xs) zero n h = omega (arith, h, sum_by-cons (λ (y : ℕ). y) (x - n) xs, sum_by-cons (λ (y : ℕ). y) x xs)
falls (x ∷ xs) (suc k) n h = omega (arith, falls xs k n h, sum_by-cons (λ (y : ℕ). y) x (changed (λ y. y - n) xs k), sum_by-cons (λ (y : ℕ). y) x xs)

-- an element is the same whatever default stands for those that don't exist
pub same_default : {X : Type 0} (xs : List X) (i : ℕ) (d e : X) → i < length xs → slice_index_or xs i d ≡ slice_index_or xs i e
same_default [] i d e h = absurd (omega (arith, h))
same_default (x ∷ xs) zero d e h = refl
same_default (x ∷ xs) (suc i) d e h = same_default xs i d e (omega (arith, h))
