-- Elements by their places among what is kept.
use Rattle.std.proofs.Common.{◌≡◌, ℕ, zero, suc, List, [], ◌∷◌, map, filter, Bool, true, false, ◌==◌, refl, sym, ap, ◌∙◌, All, Option, Some, None, option_map, slice_get, if◌then◌else◌, true≢false}
use Rattle.std.proofs.lemmas.Bool.{eqb-true, eq-eqb, ne_eqb}
use Rattle.std.proofs.lemmas.List.Elements.{All-head, All-tail}
use Rattle.sys_purge.proofs.Kept.{both, rank_apart}
use Rattle.sys_purge.specs.Purge.{rank}
use Rattle.sys_state.specs.Places.{place_of}

-- the elements are in a list from a place on
abbrev pub StandFrom : {X : Type 0} → List X → ℕ → List X → Type 0
StandFrom all i [] = Unit {0}
StandFrom all i (x ∷ xs) = (slice_get all i ≡ Some x) × StandFrom all (suc i) xs

stand_after : {X : Type 0} (y : X) (all xs : List X) (i : ℕ) → StandFrom all i xs → StandFrom (y ∷ all) (suc i) xs
stand_after y all [] i h = tt
stand_after y all (x ∷ xs) i h = (h.0, stand_after y all xs (suc i) h.1)

pub stand_all : {X : Type 0} (xs : List X) → StandFrom xs 0 xs
stand_all [] = tt
stand_all (x ∷ xs) = (refl, stand_after x xs xs 0 (stand_all xs))

-- the places among the kept, of the first and of the next
pub rank_first : {X : Type 0} (test : X → Bool) (xs : List X) → rank test xs 0 ≡ 0
rank_first test [] = refl
rank_first test (x ∷ xs) = refl

pub rank_next : {X : Type 0} (test : X → Bool) (xs : List X) (k : ℕ) (x : X) → slice_get xs k ≡ Some x → rank test xs (suc k) ≡ (if test x then suc (rank test xs k) else rank test xs k)
rank_next test [] k x h = cc
rank_next test (y ∷ ys) zero x h =
    let s : y ≡ x = cc in
    let same : test y ≡ test x = ap test s in
    let first = rank_first test ys in
    rw (same, first) refl
rank_next test (y ∷ ys) (suc k) x h =
    let rest = rank_next test ys k x h in
    both (test y) (λ e. rw e (ap suc rest ∙ both (test x) (λ b. rw b refl) (λ b. rw b refl))) (λ e. rw e rest)

-- two that are kept have one place among the kept if they have one place
pub rank_same : {X : Type 0} (test : X → Bool) (x y : X) → test x ≡ true → test y ≡ true → (zs : List X) (j k : ℕ) → slice_get zs j ≡ Some x → slice_get zs k ≡ Some y → (rank test zs j == rank test zs k) ≡ (j == k)
rank_same test x y p q zs j k at_x at_y = both (j == k)
    (λ e. eq-eqb _ _ (ap (rank test zs) (eqb-true j k e)) ∙ sym e)
    (λ e. ne_eqb _ _ (λ same. true≢false (sym (eq-eqb j k (rank_apart test x y p q zs j k at_x at_y same)) ∙ e)) ∙ sym e)

-- what is at a place has the property
abbrev pub StandsAt : {X : Type 0} → (X → Type 0) → List X → Option ℕ → Type 0
StandsAt P xs None = Unit {0}
StandsAt {X} P xs (Some k) = (x : X) × (slice_get xs k ≡ Some x) × P x

stands_after : {X : Type 0} (P : X → Type 0) (x : X) (xs : List X) (o : Option ℕ) → StandsAt P xs o → StandsAt P (x ∷ xs) (option_map suc o)
stands_after P x xs None h = tt
stands_after P x xs (Some k) h = h

pub first_stands : {X : Type 0} (p : X → Bool) (P : X → Type 0) (xs : List X) → All (λ x. p x ≡ true → P x) xs → StandsAt P xs (place_of p xs)
first_stands p P [] all = tt
first_stands p P (x ∷ xs) all =
    let one = All-head (λ x. p x ≡ true → P x) x xs all in
    let rest = first_stands p P xs (All-tail (λ x. p x ≡ true → P x) x xs all) in
    both (p x) (λ e. rw e (x, refl, one e)) (λ e. rw e (stands_after P x xs (place_of p xs) rest))

-- the first that passes is the first among the kept
after_kept : {X : Type 0} (test : X → Bool) (x : X) (xs : List X) → test x ≡ true → (o : Option ℕ) → option_map suc (option_map (rank test xs) o) ≡ option_map (rank test (x ∷ xs)) (option_map suc o)
after_kept test x xs e None = refl
after_kept test x xs e (Some k) = rw e refl

after_dropped : {X : Type 0} (test : X → Bool) (x : X) (xs : List X) → test x ≡ false → (o : Option ℕ) → option_map (rank test xs) o ≡ option_map (rank test (x ∷ xs)) (option_map suc o)
after_dropped test x xs e None = refl
after_dropped test x xs e (Some k) = rw e refl

pub place_kept : {X : Type 0} (test p q : X → Bool) (change : X → X) (xs : List X) → All (λ x. test x ≡ true → q (change x) ≡ p x) xs → All (λ x. p x ≡ true → test x ≡ true) xs
    → place_of q (map change (filter test xs)) ≡ option_map (rank test xs) (place_of p xs)
place_kept test p q change [] same kept = refl
place_kept test p q change (x ∷ xs) same kept =
    let one = All-head (λ x. test x ≡ true → q (change x) ≡ p x) x xs same in
    let is_kept = All-head (λ x. p x ≡ true → test x ≡ true) x xs kept in
    let rest = place_kept test p q change xs (All-tail (λ x. test x ≡ true → q (change x) ≡ p x) x xs same) (All-tail (λ x. p x ≡ true → test x ≡ true) x xs kept) in
    both (test x)
    (λ e. let s : q (change x) ≡ p x = one e in
    both (p x) (λ b. rw (e, s, b) refl) (λ b. rw (e, s, b) (ap (option_map suc) rest ∙ after_kept test x xs e (place_of p xs))))
    (λ e. both (p x) (λ b. absurd (true≢false (sym (is_kept b) ∙ e))) (λ b. rw (e, b) (rest ∙ after_dropped test x xs e (place_of p xs))))
