-- Whatever the schedule, each guest and each line has what its own steps give.
use Rattle.std.proofs.Common.{ℕ, ◌≡◌, ◌+◌, ◌<◌, List, [], ◌∷◌, ◌++◌, length, refl, sym, ◌∙◌, ap, Bool, true, false, if◌then◌else◌, zero, suc, ◌==◌, append-nil, arith}
use Rattle.std.specs.Prelude.{Option}
use Rattle.std.specs.List.{slice_get}
use Rattle.std.proofs.lemmas.Bool.{eq-eqb, ne_eqb}
use Rattle.sys_objects.specs.declared.records.GuestRow.{GuestRow}
use Rattle.sys_objects.specs.declared.records.Terminal.{Terminal}
use Rattle.sys_state.specs.Laws.{AnySchedule}
use Rattle.sys_state.specs.Places.{beside_with, changed}
use Rattle.sys_state.specs.Consoles.{console_of, on_console}
use Rattle.sys_state.specs.Guests.{alone}
use Rattle.sys_state.specs.State.{bytes_on}
use Rattle.sys_state.specs.Turns.{turn, turn_puts}
use Rattle.sys_state.specs.Slices.{AreQuanta, Slice, slice_puts, sliced, slices, total}
use Rattle.sys_state.proofs.Consoles.{bytes_append, bytes_of_console, one_guest, speaks}
use Rattle.sys_state.proofs.OwnLines.{own_lines}
use Rattle.sys_state.proofs.Places.{all_at, all_of_each, both, each_at, each_twice, joined, only, same_all, same_each}
use Rattle.sys_state.proofs.Steps.{shown_add, steps_add}
use Rattle.vm_state.specs.State.{Guest}

-- a slice by places
abbrev pub one_at : Slice → ℕ → Guest → Guest
one_at x i g = if i == x.guest then (alone x.steps g).guest else g

unchanged : (x : Slice) (j : ℕ) → x.guest < j → (gs : List Guest) → gs ≡ each_at (one_at x) j gs
unchanged x j l [] = refl
unchanged x j l (y ∷ ys) = let e : (j == x.guest) ≡ false = ne_eqb j x.guest (λ q. omega (arith, l, q)) in rw e (ap (λ zs. y ∷ zs) (unchanged x (suc j) (omega (arith, l)) ys))

pub changed_each : (x : Slice) (i k : ℕ) → i + k ≡ x.guest → (gs : List Guest) → changed (λ g. (alone x.steps g).guest) gs k ≡ each_at (one_at x) i gs
changed_each x i k s [] = refl
changed_each x i zero s (o ∷ os) = let e : (i == x.guest) ≡ true = eq-eqb i x.guest (omega (arith, s)) in rw e (ap (λ ys. (alone x.steps o).guest ∷ ys) (unchanged x (suc i) (omega (arith, s)) os))
changed_each x i (suc k) s (o ∷ os) = let e : (i == x.guest) ≡ false = ne_eqb i x.guest (λ q. omega (arith, s, q)) in rw e (ap (λ ys. o ∷ ys) (changed_each x (suc i) k (omega (arith, s)) os))

abbrev after : List Slice → ℕ → Guest → Guest
after xs i g = (alone (total xs i) g).guest

-- the slice is of the guest at place i, or of another
pub takes : (x : Slice) (xs : List Slice) (i : ℕ) → (i == x.guest) ≡ true → total (x ∷ xs) i ≡ x.steps + total xs i
takes x xs i e = ap (λ b. if b then x.steps + total xs i else total xs i) e

pub passes : (x : Slice) (xs : List Slice) (i : ℕ) → (i == x.guest) ≡ false → total (x ∷ xs) i ≡ total xs i
passes x xs i e = ap (λ b. if b then x.steps + total xs i else total xs i) e

pub moves : (x : Slice) (i : ℕ) (g : Guest) → (i == x.guest) ≡ true → one_at x i g ≡ (alone x.steps g).guest
moves x i g e = ap (λ b. if b then (alone x.steps g).guest else g) e

pub stays : (x : Slice) (i : ℕ) (g : Guest) → (i == x.guest) ≡ false → one_at x i g ≡ g
stays x i g e = ap (λ b. if b then (alone x.steps g).guest else g) e

after_more : (x : Slice) (xs : List Slice) (i : ℕ) (g : Guest) → after xs i (one_at x i g) ≡ after (x ∷ xs) i g
after_more x xs i g = both (i == x.guest)
    (λ e. ap (λ y. (alone (total xs i) y).guest) (moves x i g e) ∙ sym (steps_add x.steps (total xs i) g) ∙ ap (λ n. (alone n g).guest) (sym (takes x xs i e)))
    (λ e. ap (λ y. (alone (total xs i) y).guest) (stays x i g e) ∙ ap (λ n. (alone n g).guest) (sym (passes x xs i e)))

none_taken : (i : ℕ) (gs : List Guest) → gs ≡ each_at (after []) i gs
none_taken i [] = refl
none_taken i (y ∷ ys) = ap (λ zs. y ∷ zs) (none_taken (suc i) ys)

guests_after : (ks : List Terminal) (os : List (Option ℕ)) (xs : List Slice) (gs : List Guest) → (slices ks os xs gs).now ≡ each_at (after xs) 0 gs
guests_after ks os [] gs = none_taken 0 gs
guests_after ks os (x ∷ xs) gs =
    let moved = changed_each x 0 x.guest (omega arith) gs in
    ap (λ (ys : List Guest). (slices ks os xs ys).now) moved ∙ guests_after ks os xs (each_at (one_at x) 0 gs) ∙ each_twice (after xs) (one_at x) 0 gs ∙ same_each _ _ (after_more x xs) 0 gs

-- what a line is shown
abbrev said_in : Slice → ℕ → Guest → List ℕ
said_in x i g = if i == x.guest then (alone x.steps g).shown else []

silent : (p : ℕ → Bool) (x : Slice) (j : ℕ) → x.guest < j → (gs : List Guest) → all_at (only p (said_in x)) j gs ≡ []
silent p x j l [] = refl
silent p x j l (y ∷ ys) =
    let e : (j == x.guest) ≡ false = ne_eqb j x.guest (λ q. omega (arith, l, q)) in
    let rest = silent p x (suc j) (omega (arith, l)) ys in
    rw e (both (p j) (λ b. rw b rest) (λ b. rw b rest))

heard_at : (ks : List Terminal) (os : List (Option ℕ)) (line : ℕ) (x : Slice) (i k : ℕ) → i + k ≡ x.guest → (gs : List Guest) → bytes_on line (slice_puts (console_of ks os x.guest) x.steps (slice_get gs k)) ≡ all_at (only (speaks ks os line) (said_in x)) i gs
heard_at ks os line x i k s [] = refl
heard_at ks os line x i zero s (g ∷ gs) =
    let q : i ≡ x.guest = omega (arith, s) in
    let e : (i == x.guest) ≡ true = eq-eqb i x.guest q in
    let rest = silent (speaks ks os line) x (suc i) (omega (arith, q)) gs in
    rw e (bytes_of_console line (console_of ks os x.guest) (alone x.steps g).shown ∙ ap (λ (n : ℕ). if speaks ks os line n then (alone x.steps g).shown else []) (sym q) ∙ sym (append-nil _) ∙ sym (λ j. (if speaks ks os line i then (alone x.steps g).shown else []) ++ rest j))
heard_at ks os line x i (suc k) s (g ∷ gs) =
    let e : (i == x.guest) ≡ false = ne_eqb i x.guest (λ q. omega (arith, s, q)) in
    let rest = heard_at ks os line x (suc i) k (omega (arith, s)) gs in
    rw e (both (speaks ks os line i) (λ b. rw b rest) (λ b. rw b rest))

abbrev all_said : List Slice → ℕ → Guest → List ℕ
all_said xs i g = (alone (total xs i) g).shown

said_more : (x : Slice) (xs : List Slice) (i : ℕ) (g : Guest) → said_in x i g ++ all_said xs i (one_at x i g) ≡ all_said (x ∷ xs) i g
said_more x xs i g = both (i == x.guest)
    (λ e.
    let said : said_in x i g ≡ (alone x.steps g).shown = ap (λ b. if b then (alone x.steps g).shown else []) e in
    let more : all_said xs i (one_at x i g) ≡ all_said xs i (alone x.steps g).guest = ap (λ y. (alone (total xs i) y).shown) (moves x i g e) in
    (λ j. said j ++ more j) ∙ sym (shown_add x.steps (total xs i) g) ∙ ap (λ n. (alone n g).shown) (sym (takes x xs i e)))
    (λ e.
    let said : said_in x i g ≡ [] = ap (λ b. if b then (alone x.steps g).shown else []) e in
    let more : all_said xs i (one_at x i g) ≡ all_said xs i g = ap (λ y. (alone (total xs i) y).shown) (stays x i g e) in
    (λ j. said j ++ more j) ∙ ap (λ n. (alone n g).shown) (sym (passes x xs i e)))

none_said : (p : ℕ → Bool) (i : ℕ) (gs : List Guest) → [] ≡ all_at (only p (all_said [])) i gs
none_said p i [] = refl
none_said p i (y ∷ ys) = both (p i) (λ e. rw e (none_said p (suc i) ys)) (λ e. rw e (none_said p (suc i) ys))

bytes_after : (ks : List Terminal) (os : List (Option ℕ)) (line : ℕ) → ((i j : ℕ) → speaks ks os line i ≡ true → speaks ks os line j ≡ true → i ≡ j) → (xs : List Slice) (gs : List Guest) → bytes_on line (slices ks os xs gs).puts ≡ all_at (only (speaks ks os line) (all_said xs)) 0 gs
bytes_after ks os line u [] gs = none_said (speaks ks os line) 0 gs
bytes_after ks os line u (x ∷ xs) gs =
    let one = sliced ks os x gs in
    let p = speaks ks os line in
    let first = heard_at ks os line x 0 x.guest (omega arith) gs in
    let moved = changed_each x 0 x.guest (omega arith) gs in
    let rest = bytes_after ks os line u xs one.now ∙ ap (all_at (only p (all_said xs)) 0) moved ∙ all_of_each (only p (all_said xs)) (one_at x) 0 gs in
    bytes_append line one.puts (slices ks os xs one.now).puts ∙ (λ j. first j ++ rest j)
    ∙ joined p u (said_in x) (λ i g. all_said xs i (one_at x i g)) 0 gs
    ∙ same_all _ _ (λ i g. ap (λ (ys : List ℕ). if p i then ys else []) (said_more x xs i g)) 0 gs

-- where each guest takes its quantum, these are the round's
guests_of_round : (xs : List Slice) (i : ℕ) (rows : List GuestRow) (gs : List Guest) → AreQuanta xs i rows → length gs ≡ length rows → each_at (after xs) i gs ≡ beside_with turn rows gs
guests_of_round xs i [] [] q b = refl
guests_of_round xs i [] (g ∷ gs) q b = absurd (omega (arith, b))
guests_of_round xs i (row ∷ rows) [] q b = refl
guests_of_round xs i (row ∷ rows) (g ∷ gs) q b =
    let a = ap (λ (n : ℕ). (alone n g).guest) q.0 in
    let r = guests_of_round xs (suc i) rows gs q.1 (omega (arith, b)) in
    λ j. a j ∷ r j

bytes_of_round : (ks : List Terminal) (os : List (Option ℕ)) (line : ℕ) (xs : List Slice) (i : ℕ) (rows : List GuestRow) (gs : List Guest) → AreQuanta xs i rows → length gs ≡ length rows → all_at (only (speaks ks os line) (all_said xs)) i gs ≡ bytes_on line (turn_puts ks os i rows gs)
bytes_of_round ks os line xs i [] [] q b = refl
bytes_of_round ks os line xs i [] (g ∷ gs) q b = absurd (omega (arith, b))
bytes_of_round ks os line xs i (row ∷ rows) [] q b = refl
bytes_of_round ks os line xs i (row ∷ rows) (g ∷ gs) q b =
    let one = ap (λ (n : ℕ). if speaks ks os line i then (alone n g).shown else []) q.0 ∙ sym (bytes_of_console line (console_of ks os i) (alone row.quantum g).shown) in
    let rest = bytes_of_round ks os line xs (suc i) rows gs q.1 (omega (arith, b)) in
    (λ j. one j ++ rest j) ∙ sym (bytes_append line (on_console (console_of ks os i) (alone row.quantum g).shown) (turn_puts ks os (suc i) rows gs))

pub any_schedule : AnySchedule
any_schedule c s xs accepted long quanta =
    let ks = c.terminals in
    let os = s.connected in (
      guests_after ks os xs s.guests ∙ guests_of_round xs 0 c.guests s.guests quanta long,
      λ line. bytes_after ks os line (one_guest line ks os (own_lines c accepted)) xs s.guests ∙ bytes_of_round ks os line xs 0 c.guests s.guests quanta long,
    )
