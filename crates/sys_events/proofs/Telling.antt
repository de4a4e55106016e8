-- Which bytes puts show in all.
use Rattle.std.proofs.Common.{ℕ, zero, suc, ◌≡◌, ◌<◌, ◌≤◌, ◌+◌, List, [], ◌∷◌, ◌++◌, length, map, take, slice_index_or, refl, sym, ◌∙◌, ap, arith, add-one, append-nil, Bool, true, false, ◌==◌, if◌then◌else◌, Option, Some}
use Rattle.std.specs.Prelude.{All, IfSome, filter}
use Rattle.std.proofs.lemmas.List.{map-append, take_all, length-map, get_or-map}
use Rattle.std.proofs.lemmas.List.Elements.{filter_more}
use Rattle.vv_class.specs.declared.class.AccessClass.{AccessClass}
use Rattle.vv_class.specs.Class.{does_flow}
use Rattle.vv_io.specs.Lines.{Seen}
use Rattle.vm_guest.specs.Kept.{Kept}
use Rattle.sys_events.specs.Saying.{guest_line, guest_text, one_put, puts_on, runs}
use Rattle.sys_guests.specs.Layout.{guests_in}
use Rattle.sys_devices.proofs.Showings.{shows_same, shows_then}
use Rattle.sys_devices.specs.Shows.{Shows, only_on}
use Rattle.sys_objects.specs.Condition.{IsTerminal}
use Rattle.sys_objects.specs.declared.records.GuestRow.{GuestRow}
use Rattle.sys_objects.specs.declared.records.Terminal.{Terminal}
use Rattle.sys_state.proofs.Consoles.{bytes_append, bytes_of_console}
use Rattle.sys_state.proofs.Places.{both}
use Rattle.sys_state.specs.Consoles.{console_of, on_console}
use Rattle.sys_objects.specs.Places.{is_at}
use Rattle.sys_state.specs.State.{Put, bytes_on, is_running}
use Rattle.sys_server.specs.Replies.{guest_lines}

-- one put on a line
one_bytes : (line : ℕ) (bytes : List ℕ) (k : ℕ) → only_on (Some line) bytes k ≡ bytes_on k (one_put line bytes)
one_bytes line bytes k = both (line == k) (λ e. rw e (sym (append-nil bytes))) (λ e. rw e refl)

pub one_told : (marks marks' : List Bool) (l l' : List Seen) (line : ℕ) (bytes text : List ℕ) → bytes ≡ text → Shows marks marks' l l' (only_on (Some line) bytes) → Shows marks marks' l l' (λ k. bytes_on k (one_put line text))
one_told marks marks' l l' line bytes text is shows =
    shows_same marks marks' l l' (only_on (Some line) bytes) (λ k. bytes_on k (one_put line text)) (λ k. one_bytes line bytes k ∙ ap (λ (xs : List ℕ). bytes_on k (one_put line xs)) is) shows

-- some puts, and then more
pub told_then : (a b c : List Bool) (l m n : List Seen) (p q r : List Put) → p ++ q ≡ r → Shows a b l m (λ k. bytes_on k p) → Shows b c m n (λ k. bytes_on k q) → Shows a c l n (λ k. bytes_on k r)
told_then a b c l m n p q r is first second =
    shows_same a c l n (λ k. bytes_on k p ++ bytes_on k q) (λ k. bytes_on k r) (λ k. sym (bytes_append k p q) ∙ ap (λ (ps : List Put). bytes_on k ps) is) (shows_then first second)

-- SHOW's guests, one more
one_guest_more : (class : AccessClass) (rows : List GuestRow) (rs : List Bool) (i : ℕ) (row : GuestRow) (r : Bool) → i < length rows → i < length rs → row ≡ slice_index_or rows i row → r ≡ slice_index_or rs i r
    → guest_lines class (take (suc i) rows) (take (suc i) rs) ≡ guest_lines class (take i rows) (take i rs) ++ guest_line class row r
one_guest_more class [] rs i row r h g read read' = absurd (omega (arith, h))
one_guest_more class (x ∷ rows) [] i row r h g read read' = absurd (omega (arith, g))
one_guest_more class (x ∷ rows) (y ∷ rs) zero row r h g read read' =
    (λ j. first (sym read j) (sym read' j)) ∙ flows
  where
    first : GuestRow → Bool → List (List ℕ)
    first row r = guest_lines class (row ∷ []) (r ∷ [])

    flows : first row r ≡ guest_line class row r
    flows = both (does_flow row.class class) (λ e. rw e refl) (λ e. rw e refl)
one_guest_more class (x ∷ rows) (y ∷ rs) (suc i) row r h g read read' =
    let rest = one_guest_more class rows rs i row r (omega (arith, h)) (omega (arith, g)) read read' in
    both (does_flow x.class class) (λ e. rw e (ap (λ (ls : List (List ℕ)). guest_text x y ∷ ls) rest)) (λ e. rw e rest)

pub guests_more : (line : ℕ) (class : AccessClass) (rows : List GuestRow) (ks : List Kept) (i : ℕ) (row : GuestRow) (k : Kept) → i < length rows → i < length ks → row ≡ slice_index_or rows i row → k ≡ slice_index_or ks i k
    → puts_on line (guest_lines class (take i rows) (take i (map runs ks))) ++ puts_on line (guest_line class row (runs k)) ≡ puts_on line (guest_lines class (take (i + 1) rows) (take (i + 1) (map runs ks)))
guests_more line class rows ks i row k h g read read' =
    let rs : List Bool = map runs ks in
    let r : runs k ≡ slice_index_or rs i (runs k) = ap runs read' ∙ sym (get_or-map runs ks i k (runs k) g) in
    let long : length rs ≡ length ks = length-map ks runs in
    let put : List ℕ → Put = λ text. record { line = line; bytes = text } in
    sym (map-append put (guest_lines class (take i rows) (take i rs)) (guest_line class row (runs k)))
    ∙ ap (puts_on line) (sym (one_guest_more class rows rs i row (runs k) h (omega (arith, g, long)) read r) ∙ ap (λ (n : ℕ). guest_lines class (take n rows) (take n rs)) (sym (add-one i)))

pub all_guests : (line : ℕ) (class : AccessClass) (rows : List GuestRow) (rs : List Bool) (i : ℕ) → length rows ≤ i → length rs ≡ length rows → puts_on line (guest_lines class (take i rows) (take i rs)) ≡ puts_on line (guest_lines class rows rs)
all_guests line class rows rs i h same = λ j. puts_on line (guest_lines class (take_all i rows h j) (take_all i rs (omega (arith, h, same)) j))

-- lines of those that pass, one more
texts_more : {X : Type 0} (p : X → Bool) (f : X → List ℕ) (xs : List X) (i : ℕ) (x : X) → i < length xs → x ≡ slice_index_or xs i x → map f (filter p (take (i + 1) xs)) ≡ map f (filter p (take i xs)) ++ (if p x then f x ∷ [] else [])
texts_more p f xs i x h read =
    ap (map f) (filter_more p xs i x h ∙ ap (λ y. filter p (take i xs) ++ (if p y then y ∷ [] else [])) (sym read))
    ∙ map-append f (filter p (take i xs)) (if p x then x ∷ [] else [])
    ∙ ap (λ (ys : List (List ℕ)). map f (filter p (take i xs)) ++ ys) (one (p x))
  where
    one : (b : Bool) → map f (if b then x ∷ [] else []) ≡ (if b then f x ∷ [] else [])
    one true = refl
    one false = refl

pub passing_more : {X : Type 0} (line : ℕ) (p : X → Bool) (f : X → List ℕ) (xs : List X) (i : ℕ) (x : X) → i < length xs → x ≡ slice_index_or xs i x
    → puts_on line (map f (filter p (take i xs))) ++ puts_on line (if p x then f x ∷ [] else []) ≡ puts_on line (map f (filter p (take (i + 1) xs)))
passing_more line p f xs i x h read =
    let put : List ℕ → Put = λ text. record { line = line; bytes = text } in
    sym (map-append put (map f (filter p (take i xs))) (if p x then f x ∷ [] else [])) ∙ ap (puts_on line) (sym (texts_more p f xs i x h read))

pub all_passing : {X : Type 0} (line : ℕ) (p : X → Bool) (f : X → List ℕ) (xs : List X) (i : ℕ) → length xs ≤ i → puts_on line (map f (filter p (take i xs))) ≡ puts_on line (map f (filter p xs))
all_passing line p f xs i h = ap (λ (ys : List _). puts_on line (map f (filter p ys))) (take_all i xs h)

-- the three parts of SHOW
pub parts : (line : ℕ) (guests volumes printers : List (List ℕ)) → (puts_on line guests ++ puts_on line volumes) ++ puts_on line printers ≡ puts_on line (guests ++ volumes ++ printers)
parts line guests volumes printers =
    let put : List ℕ → Put = λ text. record { line = line; bytes = text } in
    ap (λ (ps : List Put). ps ++ puts_on line printers) (sym (map-append put guests volumes)) ∙ sym (map-append put (guests ++ volumes) printers)

-- who runs, whatever the memory has
pub who_runs : (memory : List ℕ) (ks : List Kept) → map is_running (guests_in memory ks) ≡ map runs ks
who_runs memory [] = refl
who_runs memory (k ∷ ks) = ap (λ (rs : List Bool). runs k ∷ rs) (who_runs memory ks)

-- the console of a guest is found among the terminals that exist
pub console_in_front : (ks : List Terminal) (os : List (Option ℕ)) (g : ℕ) → console_of ks (take (length ks) os) g ≡ console_of ks os g
console_in_front [] os g = refl
console_in_front (k ∷ ks) [] g = refl
console_in_front (k ∷ ks) (o ∷ os) g =
    let rest = console_in_front ks os g in
    ap (λ (x : Option ℕ). if is_at g o then Some k.line else x) rest

-- what is shown on a console
pub console_told : (marks marks' : List Bool) (l l' : List Seen) (console place : Option ℕ) (bytes text : List ℕ) → console ≡ place → bytes ≡ text → Shows marks marks' l l' (only_on console bytes) → Shows marks marks' l l' (λ k. bytes_on k (on_console place text))
console_told marks marks' l l' console place bytes text at is shows =
    shows_same marks marks' l l' (only_on console bytes) (λ k. bytes_on k (on_console place text)) (λ k. (λ i. only_on (at i) (is i) k) ∙ sym (bytes_of_console k place text)) shows

-- a terminal's line is one of 32
pub small_line : (ks : List Terminal) (os : List (Option ℕ)) (g : ℕ) → All IsTerminal ks → IfSome (console_of ks os g) (λ line. line < 32)
small_line [] os g all = tt
small_line (k ∷ ks) [] g all = tt
small_line (k ∷ ks) (o ∷ os) g all =
    let one : IsTerminal k = all 0 k (omega arith) in
    by (is_at g o) k.line (console_of ks os g) (omega (arith, one.line)) (small_line ks os g (λ i d h. all (suc i) d (omega (arith, h))))
  where
    by : (b : Bool) (line : ℕ) (rest : Option ℕ) → line < 32 → IfSome rest (λ n. n < 32) → IfSome (if b then Some line else rest) (λ n. n < 32)
    by true line rest small others = small
    by false line rest small others = others
