-- Whatever the schedule, each guest's first touches are those of its own steps.
use Rattle.std.proofs.Common.{ℕ, ◌≡◌, ◌+◌, ◌<◌, List, [], ◌∷◌, length, refl, sym, ◌∙◌, ap, true, false, if◌then◌else◌, zero, suc, ◌==◌, arith}
use Rattle.std.specs.List.{slice_get}
use Rattle.std.proofs.lemmas.Bool.{eq-eqb, ne_eqb}
use Rattle.sys_objects.specs.declared.records.GuestRow.{GuestRow}
use Rattle.sys_state.specs.FirstTouches.{touches_of_turns}
use Rattle.sys_state.specs.Guests.{alone}
use Rattle.sys_state.specs.Laws.{SameTouches}
use Rattle.sys_state.specs.Places.{changed}
use Rattle.sys_state.specs.SlicedTouches.{touched_as, touches_of_slice, touches_of_slices}
use Rattle.sys_state.specs.Slices.{AreQuanta, Slice, total}
use Rattle.sys_state.proofs.Places.{both, each_at}
use Rattle.sys_state.proofs.Schedules.{changed_each, moves, one_at, passes, stays, takes}
use Rattle.sys_state.proofs.Steps.{steps_add}
use Rattle.vm_state.specs.State.{Guest}
use Rattle.vm_state.specs.Step.{step}
use Rattle.vm_state.specs.Touches.{Touching, touching_step, touching_steps}

-- steps in two bursts
touching_add : (a b : ℕ) (g : Guest) (t : Touching) → touching_steps (a + b) g t ≡ touching_steps b (alone a g).guest (touching_steps a g t)
touching_add zero b g t = let e : zero + b ≡ b = omega arith in ap (λ n. touching_steps n g t) e
touching_add (suc a) b g t =
    let e : suc a + b ≡ suc (a + b) = omega arith in
    let s = step g in
    let next : 1 + a ≡ suc a = omega arith in
    let now : (alone a s.guest).guest ≡ (alone (suc a) g).guest = sym (steps_add 1 a g) ∙ ap (λ n. (alone n g).guest) next in
    ap (λ n. touching_steps n g t) e ∙ touching_add a b s.guest (touching_step g s t) ∙ ap (λ (h : Guest). touching_steps b h (touching_steps a s.guest (touching_step g s t))) now

-- guests and their touches by places
abbrev each_pair : (ℕ → Guest → Touching → Touching) → ℕ → List Guest → List Touching → List Touching
each_pair f i [] ts = []
each_pair f i (g ∷ gs) [] = []
each_pair f i (g ∷ gs) (t ∷ ts) = f i g t ∷ each_pair f (suc i) gs ts

abbrev one_pair : Slice → ℕ → Guest → Touching → Touching
one_pair x i g t = if i == x.guest then touching_steps x.steps g t else t

abbrev after_pair : List Slice → ℕ → Guest → Touching → Touching
after_pair xs i g t = touching_steps (total xs i) g t

pair_long : (f : ℕ → Guest → Touching → Touching) (i : ℕ) (gs : List Guest) (ts : List Touching) → length ts ≡ length gs → length (each_pair f i gs ts) ≡ length gs
pair_long f i [] ts l = refl
pair_long f i (g ∷ gs) [] l = absurd (omega (arith, l))
pair_long f i (g ∷ gs) (t ∷ ts) l = ap suc (pair_long f (suc i) gs ts (omega (arith, l)))

each_long : (f : ℕ → Guest → Guest) (i : ℕ) (gs : List Guest) → length (each_at f i gs) ≡ length gs
each_long f i [] = refl
each_long f i (g ∷ gs) = ap suc (each_long f (suc i) gs)

untouched : (x : Slice) (j : ℕ) (gs : List Guest) (ts : List Touching) → x.guest < j → length ts ≡ length gs → ts ≡ each_pair (one_pair x) j gs ts
untouched x j [] [] h l = refl
untouched x j [] (t ∷ ts) h l = absurd (omega (arith, l))
untouched x j (g ∷ gs) [] h l = absurd (omega (arith, l))
untouched x j (g ∷ gs) (t ∷ ts) h l = let e : (j == x.guest) ≡ false = ne_eqb j x.guest (λ q. omega (arith, h, q)) in rw e (ap (λ us. t ∷ us) (untouched x (suc j) gs ts (omega (arith, h)) (omega (arith, l))))

slice_pairs : (x : Slice) (i k : ℕ) → i + k ≡ x.guest → (gs : List Guest) (ts : List Touching) → length ts ≡ length gs → changed (touched_as x.steps (slice_get gs k)) ts k ≡ each_pair (one_pair x) i gs ts
slice_pairs x i k s [] [] l = refl
slice_pairs x i k s [] (t ∷ ts) l = absurd (omega (arith, l))
slice_pairs x i k s (g ∷ gs) [] l = absurd (omega (arith, l))
slice_pairs x i zero s (g ∷ gs) (t ∷ ts) l = let e : (i == x.guest) ≡ true = eq-eqb i x.guest (omega (arith, s)) in rw e (ap (λ us. touching_steps x.steps g t ∷ us) (untouched x (suc i) gs ts (omega (arith, s)) (omega (arith, l))))
slice_pairs x i (suc k) s (g ∷ gs) (t ∷ ts) l = let e : (i == x.guest) ≡ false = ne_eqb i x.guest (λ q. omega (arith, s, q)) in rw e (ap (λ us. t ∷ us) (slice_pairs x (suc i) k (omega (arith, s)) gs ts (omega (arith, l))))

-- one slice, and those after it
pair_more : (x : Slice) (xs : List Slice) (i : ℕ) (g : Guest) (t : Touching) → after_pair xs i (one_at x i g) (one_pair x i g t) ≡ after_pair (x ∷ xs) i g t
pair_more x xs i g t = both (i == x.guest)
    (λ e. (λ j. touching_steps (total xs i) (moves x i g e j) (if e j then touching_steps x.steps g t else t)) ∙ sym (touching_add x.steps (total xs i) g t) ∙ ap (λ n. touching_steps n g t) (sym (takes x xs i e)))
    (λ e. (λ j. touching_steps (total xs i) (stays x i g e j) (if e j then touching_steps x.steps g t else t)) ∙ ap (λ n. touching_steps n g t) (sym (passes x xs i e)))

pair_twice : (x : Slice) (xs : List Slice) (i : ℕ) (gs : List Guest) (ts : List Touching) → each_pair (after_pair xs) i (each_at (one_at x) i gs) (each_pair (one_pair x) i gs ts) ≡ each_pair (after_pair (x ∷ xs)) i gs ts
pair_twice x xs i [] ts = refl
pair_twice x xs i (g ∷ gs) [] = refl
pair_twice x xs i (g ∷ gs) (t ∷ ts) = λ j. pair_more x xs i g t j ∷ pair_twice x xs (suc i) gs ts j

none_yet : (i : ℕ) (gs : List Guest) (ts : List Touching) → length ts ≡ length gs → ts ≡ each_pair (after_pair []) i gs ts
none_yet i [] [] l = refl
none_yet i [] (t ∷ ts) l = absurd (omega (arith, l))
none_yet i (g ∷ gs) [] l = absurd (omega (arith, l))
none_yet i (g ∷ gs) (t ∷ ts) l = ap (λ us. t ∷ us) (none_yet (suc i) gs ts (omega (arith, l)))

slices_pairs : (xs : List Slice) (gs : List Guest) (ts : List Touching) → length ts ≡ length gs → touches_of_slices xs gs ts ≡ each_pair (after_pair xs) 0 gs ts
slices_pairs [] gs ts l = none_yet 0 gs ts l
slices_pairs (x ∷ xs) gs ts l =
    let moved = changed_each x 0 x.guest (omega arith) gs in
    let touched : touches_of_slice x gs ts ≡ each_pair (one_pair x) 0 gs ts = slice_pairs x 0 x.guest (omega arith) gs ts l in
    (λ j. touches_of_slices xs (moved j) (touched j))
    ∙ slices_pairs xs (each_at (one_at x) 0 gs) (each_pair (one_pair x) 0 gs ts) (pair_long (one_pair x) 0 gs ts l ∙ sym (each_long (one_at x) 0 gs)) ∙ pair_twice x xs 0 gs ts

-- where each guest takes its quantum, these are the round's
pairs_of_round : (xs : List Slice) (i : ℕ) (rows : List GuestRow) (gs : List Guest) (ts : List Touching) → AreQuanta xs i rows → length gs ≡ length rows → length ts ≡ length gs → each_pair (after_pair xs) i gs ts ≡ touches_of_turns rows gs ts
pairs_of_round xs i [] [] ts q b l = refl
pairs_of_round xs i [] (g ∷ gs) ts q b l = absurd (omega (arith, b))
pairs_of_round xs i (row ∷ rows) [] ts q b l = absurd (omega (arith, b))
pairs_of_round xs i (row ∷ rows) (g ∷ gs) [] q b l = absurd (omega (arith, l))
pairs_of_round xs i (row ∷ rows) (g ∷ gs) (t ∷ ts) q b l =
    let one = ap (λ (n : ℕ). touching_steps n g t) q.0 in
    let rest = pairs_of_round xs (suc i) rows gs ts q.1 (omega (arith, b)) (omega (arith, l)) in
    λ j. one j ∷ rest j

pub same_touches : SameTouches
same_touches rows gs xs ts many long quanta = slices_pairs xs gs ts long ∙ pairs_of_round xs 0 rows gs ts quanta many long
