-- A line shows one guest at most.
use Rattle.std.proofs.Common.{ℕ, ◌≡◌, ◌≢◌, ◌<◌, List, [], ◌∷◌, ◌++◌, length, slice_index_or, refl, sym, ◌∙◌, ap, subst, Bool, true, false, if◌then◌else◌, suc, ◌==◌, true≢false, arith}
use Rattle.std.specs.Prelude.{filter, flat_map, Option, None, Some}
use Rattle.std.specs.List.{AllPairs}
use Rattle.std.proofs.lemmas.Bool.{eqb-true, ne_eqb}
use Rattle.std.proofs.lemmas.List.Elements.{filter-append}
use Rattle.std.proofs.lemmas.List.Concat.{flat_map-append}
use Rattle.sys_objects.specs.declared.records.Terminal.{Terminal}
use Rattle.sys_objects.specs.Places.{is_at}
use Rattle.sys_state.specs.Consoles.{console_of, on_console}
use Rattle.sys_state.specs.State.{Put, bytes_on}
use Rattle.sys_state.proofs.Places.{both}

-- whether a line shows the guest at a place
abbrev pub speaks : List Terminal → List (Option ℕ) → ℕ → ℕ → Bool
speaks ks os line i = is_at line (console_of ks os i)

pub bytes_append : (line : ℕ) (a b : List Put) → bytes_on line (a ++ b) ≡ bytes_on line a ++ bytes_on line b
bytes_append line a b = ap (λ (qs : List Put). flat_map (λ (q : Put). q.bytes) qs) (filter-append (λ (q : Put). q.line == line) a b) ∙ flat_map-append (λ (q : Put). q.bytes) (filter (λ (q : Put). q.line == line) a) (filter (λ (q : Put). q.line == line) b)

-- what a line is shown of one guest
pub bytes_of_console : (line : ℕ) (console : Option ℕ) (bytes : List ℕ) → bytes_on line (on_console console bytes) ≡ (if is_at line console then bytes else [])
bytes_of_console line None bytes = refl
bytes_of_console line (Some l) [] = both (l == line) (λ e. rw e refl) (λ e. rw e refl)
bytes_of_console line (Some l) (b ∷ bytes) =
    let rest = bytes_of_console line (Some l) bytes in
    both (l == line) (λ e. rw e (ap (λ xs. b ∷ xs) (rw e at rest))) (λ e. rw e (rw e at rest))

-- each later terminal has another line
abbrev Apart : List Terminal → Type 0
Apart [] = Unit {0}
Apart (k ∷ ks) = ((j : ℕ) (d : Terminal) → j < length ks → ((slice_index_or ks j d).line == k.line) ≡ false) × Apart ks

apart : (ks : List Terminal) → AllPairs (λ j k. j.line ≢ k.line) ks → Apart ks
apart [] h = tt
apart (k ∷ ks) h = ((λ j d l. ne_eqb _ _ (λ e. h 0 (suc j) d (omega arith) (omega (arith, l)) (sym e))), apart ks (λ i j d l m. h (suc i) (suc j) d (omega (arith, l)) (omega (arith, m))))

not_later : (line : ℕ) (k : Terminal) → (k.line == line) ≡ true → (ks : List Terminal) (os : List (Option ℕ)) → ((j : ℕ) (d : Terminal) → j < length ks → ((slice_index_or ks j d).line == k.line) ≡ false) → (j : ℕ) → is_at line (console_of ks os j) ≡ false
not_later line k e [] os d j = refl
not_later line k e (y ∷ ys) [] d j = refl
not_later line k e (y ∷ ys) (o ∷ os) d j =
    let rest = not_later line k e ys os (λ i x l. d (suc i) x (omega (arith, l))) j in
    let far : (y.line == line) ≡ false = subst (λ n. (y.line == n) ≡ false) (eqb-true k.line line e) (d 0 y (omega arith)) in
    both (is_at j o) (λ b. rw (b, far) refl) (λ b. rw b rest)

same_place : (o : Option ℕ) (i j : ℕ) → is_at i o ≡ true → is_at j o ≡ true → i ≡ j
same_place None i j e f = absurd (true≢false (sym e))
same_place (Some q) i j e f = sym (eqb-true q i e) ∙ eqb-true q j f

at_most_one : (line : ℕ) (ks : List Terminal) (os : List (Option ℕ)) → Apart ks → (i j : ℕ) → speaks ks os line i ≡ true → speaks ks os line j ≡ true → i ≡ j
at_most_one line [] os d i j a b = absurd (true≢false (sym a))
at_most_one line (k ∷ ks) [] d i j a b = absurd (true≢false (sym a))
at_most_one line (k ∷ ks) (o ∷ os) d i j a b =
    let rest = at_most_one line ks os d.1 i j in
    both (is_at i o) (λ e. both (is_at j o) (λ f. same_place o i j e f) (λ f. absurd (true≢false (sym (rw f at b) ∙ not_later line k (rw e at a) ks os d.0 j))))
    (λ e. both (is_at j o) (λ f. absurd (true≢false (sym (rw e at a) ∙ not_later line k (rw f at b) ks os d.0 i))) (λ f. rest (rw e at a) (rw f at b)))

pub one_guest : (line : ℕ) (ks : List Terminal) (os : List (Option ℕ)) → AllPairs (λ j k. j.line ≢ k.line) ks → (i j : ℕ) → speaks ks os line i ≡ true → speaks ks os line j ≡ true → i ≡ j
one_guest line ks os h i j a b = at_most_one line ks os (apart ks h) i j a b
