-- Counts of several guests, summed in any order.
use Rattle.std.proofs.Common.{ℕ, ◌≡◌, ◌+◌, ◌<◌, ◌%◌, ◌^◌, List, [], ◌∷◌, length, refl, sym, ◌∙◌, ap, true, false, if◌then◌else◌, zero, suc, ◌==◌, arith}
use Rattle.std.specs.List.{slice_get}
use Rattle.std.proofs.lemmas.Bool.{eq-eqb, ne_eqb}
use Rattle.sys_objects.specs.declared.records.GuestRow.{GuestRow}
use Rattle.sys_state.specs.Counts.{added, round_tally, slices_tally, tally_by}
use Rattle.sys_state.specs.Laws.{SameCounts}
use Rattle.sys_state.specs.Places.{changed}
use Rattle.sys_state.specs.Guests.{alone}
use Rattle.sys_state.specs.Slices.{AreQuanta, Slice, total}
use Rattle.sys_state.proofs.Places.{both, each_at}
use Rattle.sys_state.proofs.Schedules.{changed_each, moves, one_at, passes, stays, takes}
use Rattle.sys_state.proofs.Steps.{as_sum, tally_add, trail_fits}
use Rattle.vm_state.specs.State.{Guest}
use Rattle.vm_state.specs.Run.{Tally, no_steps}

-- the sum of what is at each place, from the i-th on
abbrev sum_at : {X : Type 0} → (ℕ → X → Tally) → ℕ → List X → Tally
sum_at f i [] = no_steps
sum_at f i (x ∷ xs) = added (f i x) (sum_at f (suc i) xs)

same_sum : {X : Type 0} (f h : ℕ → X → Tally) → ((i : ℕ) (x : X) → f i x ≡ h i x) → (i : ℕ) (xs : List X) → sum_at f i xs ≡ sum_at h i xs
same_sum f h e i [] = refl
same_sum f h e i (x ∷ xs) = let a = e i x in let b = same_sum f h e (suc i) xs in λ j. added (a j) (b j)

sum_of_each : {X : Type 0} (f : ℕ → X → Tally) (h : ℕ → X → X) (i : ℕ) (xs : List X) → sum_at f i (each_at h i xs) ≡ sum_at (λ i x. f i (h i x)) i xs
sum_of_each f h i [] = refl
sum_of_each f h i (x ∷ xs) = ap (λ t. added (f i (h i x)) t) (sum_of_each f h (suc i) xs)

-- four are summed two by two
exchanged : (a b c d : Tally) → added (added a b) (added c d) ≡ added (added a c) (added b d)
exchanged a b c d =
    let plain : (a.plain + b.plain) + (c.plain + d.plain) ≡ (a.plain + c.plain) + (b.plain + d.plain) = omega arith in
    let sensitive : (a.sensitive + b.sensitive) + (c.sensitive + d.sensitive) ≡ (a.sensitive + c.sensitive) + (b.sensitive + d.sensitive) = omega arith in
    let faults : (a.faults + b.faults) + (c.faults + d.faults) ≡ (a.faults + c.faults) + (b.faults + d.faults) = omega arith in
    let interrupts : (a.interrupts + b.interrupts) + (c.interrupts + d.interrupts) ≡ (a.interrupts + c.interrupts) + (b.interrupts + d.interrupts) = omega arith in
    let modify : (a.modify + b.modify) + (c.modify + d.modify) ≡ (a.modify + c.modify) + (b.modify + d.modify) = omega arith in
    let idle : (a.idle + b.idle) + (c.idle + d.idle) ≡ (a.idle + c.idle) + (b.idle + d.idle) = omega arith in
    let stopped : (a.stopped + b.stopped) + (c.stopped + d.stopped) ≡ (a.stopped + c.stopped) + (b.stopped + d.stopped) = omega arith in
    let trail : ((a.trail + b.trail) % 2 ^ 64 + (c.trail + d.trail) % 2 ^ 64) % 2 ^ 64 ≡ ((a.trail + c.trail) % 2 ^ 64 + (b.trail + d.trail) % 2 ^ 64) % 2 ^ 64 = omega arith in
    λ i. record { plain = plain i; sensitive = sensitive i; faults = faults i; interrupts = interrupts i; modify = modify i; idle = idle i; stopped = stopped i; trail = trail i }

nothing_added : (t : Tally) → t.trail < 2 ^ 64 → added no_steps t ≡ t
nothing_added t h =
    let plain : 0 + t.plain ≡ t.plain = omega arith in
    let sensitive : 0 + t.sensitive ≡ t.sensitive = omega arith in
    let faults : 0 + t.faults ≡ t.faults = omega arith in
    let interrupts : 0 + t.interrupts ≡ t.interrupts = omega arith in
    let modify : 0 + t.modify ≡ t.modify = omega arith in
    let idle : 0 + t.idle ≡ t.idle = omega arith in
    let stopped : 0 + t.stopped ≡ t.stopped = omega arith in
    let trail : (0 + t.trail) % 2 ^ 64 ≡ t.trail = omega (arith, h) in
    λ i. record { plain = plain i; sensitive = sensitive i; faults = faults i; interrupts = interrupts i; modify = modify i; idle = idle i; stopped = stopped i; trail = trail i }

sum_added : {X : Type 0} (f h : ℕ → X → Tally) (i : ℕ) (xs : List X) → added (sum_at f i xs) (sum_at h i xs) ≡ sum_at (λ i x. added (f i x) (h i x)) i xs
sum_added f h i [] = refl
sum_added f h i (x ∷ xs) = exchanged (f i x) (sum_at f (suc i) xs) (h i x) (sum_at h (suc i) xs) ∙ ap (λ t. added (added (f i x) (h i x)) t) (sum_added f h (suc i) xs)

-- one slice by places
abbrev taken_in : Slice → ℕ → Guest → Tally
taken_in x i g = if i == x.guest then (alone x.steps g).tally else no_steps

none_in : (x : Slice) (j : ℕ) → x.guest < j → (gs : List Guest) → sum_at (taken_in x) j gs ≡ no_steps
none_in x j l [] = refl
none_in x j l (g ∷ gs) =
    let e : (j == x.guest) ≡ false = ne_eqb j x.guest (λ q. omega (arith, l, q)) in
    let rest = none_in x (suc j) (omega (arith, l)) gs in
    rw e (ap (added no_steps) rest)

sum_fits : {X : Type 0} (f : ℕ → X → Tally) (i : ℕ) (xs : List X) → (sum_at f i xs).trail < 2 ^ 64
sum_fits f i [] = omega arith
sum_fits f i (x ∷ xs) = omega arith

one_slice : (x : Slice) (i k : ℕ) → i + k ≡ x.guest → (gs : List Guest) → tally_by x.steps (slice_get gs k) ≡ sum_at (taken_in x) i gs
one_slice x i k s [] = refl
one_slice x i zero s (g ∷ gs) =
    let e : (i == x.guest) ≡ true = eq-eqb i x.guest (omega (arith, s)) in
    let rest = none_in x (suc i) (omega (arith, s)) gs in
    rw (e, rest) (as_sum (alone x.steps g).tally (trail_fits x.steps g))
one_slice x i (suc k) s (g ∷ gs) =
    let e : (i == x.guest) ≡ false = ne_eqb i x.guest (λ q. omega (arith, s, q)) in
    rw e (one_slice x (suc i) k (omega (arith, s)) gs ∙ sym (nothing_added (sum_at (taken_in x) (suc i) gs) (sum_fits (taken_in x) (suc i) gs)))

abbrev all_taken : List Slice → ℕ → Guest → Tally
all_taken xs i g = (alone (total xs i) g).tally

taken_more : (x : Slice) (xs : List Slice) (i : ℕ) (g : Guest) → added (taken_in x i g) (all_taken xs i (one_at x i g)) ≡ all_taken (x ∷ xs) i g
taken_more x xs i g = both (i == x.guest)
    (λ e.
    let one : taken_in x i g ≡ (alone x.steps g).tally = ap (λ b. if b then (alone x.steps g).tally else no_steps) e in
    let more : all_taken xs i (one_at x i g) ≡ all_taken xs i (alone x.steps g).guest = ap (λ y. (alone (total xs i) y).tally) (moves x i g e) in
    (λ j. added (one j) (more j)) ∙ sym (tally_add x.steps (total xs i) g) ∙ ap (λ n. (alone n g).tally) (sym (takes x xs i e)))
    (λ e.
    let one : taken_in x i g ≡ no_steps = ap (λ b. if b then (alone x.steps g).tally else no_steps) e in
    let more : all_taken xs i (one_at x i g) ≡ all_taken xs i g = ap (λ y. (alone (total xs i) y).tally) (stays x i g e) in
    (λ j. added (one j) (more j)) ∙ nothing_added (all_taken xs i g) (trail_fits (total xs i) g) ∙ ap (λ n. (alone n g).tally) (sym (passes x xs i e)))

none_yet : (i : ℕ) (gs : List Guest) → no_steps ≡ sum_at (all_taken []) i gs
none_yet i [] = refl
none_yet i (g ∷ gs) = ap (added no_steps) (none_yet (suc i) gs)

slices_sum : (xs : List Slice) (gs : List Guest) → slices_tally xs gs ≡ sum_at (all_taken xs) 0 gs
slices_sum [] gs = none_yet 0 gs
slices_sum (x ∷ xs) gs =
    let first = one_slice x 0 x.guest (omega arith) gs in
    let moved = changed_each x 0 x.guest (omega arith) gs in
    let rest = slices_sum xs (changed (λ g. (alone x.steps g).guest) gs x.guest) ∙ ap (sum_at (all_taken xs) 0) moved ∙ sum_of_each (all_taken xs) (one_at x) 0 gs in
    (λ j. added (first j) (rest j)) ∙ sum_added (taken_in x) (λ i g. all_taken xs i (one_at x i g)) 0 gs ∙ same_sum _ _ (taken_more x xs) 0 gs

sum_of_round : (xs : List Slice) (i : ℕ) (rows : List GuestRow) (gs : List Guest) → AreQuanta xs i rows → length gs ≡ length rows → sum_at (all_taken xs) i gs ≡ round_tally rows gs
sum_of_round xs i [] [] q b = refl
sum_of_round xs i [] (g ∷ gs) q b = absurd (omega (arith, b))
sum_of_round xs i (row ∷ rows) [] q b = refl
sum_of_round xs i (row ∷ rows) (g ∷ gs) q b =
    let one = ap (λ (n : ℕ). (alone n g).tally) q.0 in
    let rest = sum_of_round xs (suc i) rows gs q.1 (omega (arith, b)) in
    λ j. added (one j) (rest j)

pub same_counts : SameCounts
same_counts rows gs xs long quanta = slices_sum xs gs ∙ sum_of_round xs 0 rows gs quanta long
