-- What is kept of a list: its parts, sums and places.
use Rattle.std.proofs.Common.{◌≡◌, ◌≤◌, ℕ, zero, suc, List, [], ◌∷◌, ◌++◌, length, map, filter, Bool, true, false, refl, sym, ap, ◌∙◌, subst, get_or, All, Some, slice_get, sum_by, ◌⊎◌, inl, inr, arith}
use Rattle.std.specs.List.{AllPairs}
use Rattle.std.proofs.lemmas.List.Elements.{All-nil, All-cons, All-head, All-tail, All-same, All-map}
use Rattle.std.proofs.lemmas.List.Kept.{AllPairs-cons}
use Rattle.std.proofs.lemmas.List.Sums.{sum_by-cons, length-filter, count_by-le-length}
use Rattle.sys_purge.specs.Purge.{rank}

pub both : {A : Type 0} (b : Bool) → (b ≡ true → A) → (b ≡ false → A) → A
both true f g = f refl
both false f g = g refl

-- a list is a part of another, in its order
abbrev pub Part : {A : Type 0} → List A → List A → Type 0
Part xs [] = xs ≡ []
Part {A} xs (y ∷ ys) = Part xs ys ⊎ ((zs : List A) × (xs ≡ y ∷ zs) × Part zs ys)

pub part_all : {A : Type 0} (P : A → Type 0) (xs ys : List A) → All P ys → Part xs ys → All P xs
part_all P xs [] all e = All-same P xs [] e (All-nil P)
part_all P xs (y ∷ ys) all (inl h) = part_all P xs ys (All-tail P y ys all) h
part_all P xs (y ∷ ys) all (inr h) = All-same P xs (y ∷ h.0) h.1 (All-cons P y h.0 (All-head P y ys all) (part_all P h.0 ys (All-tail P y ys all) h.2))

pairs_none : {A : Type 0} (R : A → A → Type 0) → AllPairs R []
pairs_none R i j d before within = absurd (omega arith)

pub part_pairs : {A : Type 0} (R : A → A → Type 0) (xs ys : List A) → AllPairs R ys → Part xs ys → AllPairs R xs
part_pairs R xs [] all e = subst (AllPairs R) (sym e) (pairs_none R)
part_pairs R xs (y ∷ ys) all (inl h) = part_pairs R xs ys (λ i j d before within. all (suc i) (suc j) d (omega arith) (omega arith)) h
part_pairs R xs (y ∷ ys) all (inr h) =
    let first : All (R y) ys = λ k d within. all 0 (suc k) d (omega arith) (omega arith) in
    let rest : AllPairs R ys = λ i j d before within. all (suc i) (suc j) d (omega arith) (omega arith) in
    subst (AllPairs R) (sym h.1) (AllPairs-cons R y h.0 (part_all (R y) h.0 ys first h.2) (part_pairs R h.0 ys rest h.2))

pub part_append : {A : Type 0} (xs us ys vs : List A) → Part xs ys → Part us vs → Part (xs ++ us) (ys ++ vs)
part_append xs us [] vs e k = subst (λ zs. Part (zs ++ us) vs) (sym e) k
part_append xs us (y ∷ ys) vs (inl h) k = inl (part_append xs us ys vs h k)
part_append xs us (y ∷ ys) vs (inr h) k = inr (h.0 ++ us, ap (λ zs. zs ++ us) h.1, part_append h.0 us ys vs h.2 k)

pub part_filter : {A B : Type 0} (f : A → B) (test : A → Bool) (xs : List A) → Part (map f (filter test xs)) (map f xs)
part_filter f test [] = refl
part_filter f test (x ∷ xs) = both (test x)
    (λ e. rw e (inr (map f (filter test xs), refl, part_filter f test xs)))
    (λ e. rw e (inl (part_filter f test xs)))

pub part_changed : {A B : Type 0} (f : A → B) (change : A → A) (test : A → Bool) → ((x : A) → f (change x) ≡ f x) → (xs : List A) → Part (map f (map change (filter test xs))) (map f xs)
part_changed f change test same [] = refl
part_changed f change test same (x ∷ xs) = both (test x)
    (λ e. rw e (inr (map f (map change (filter test xs)), ap (λ y. y ∷ map f (map change (filter test xs))) (same x), part_changed f change test same xs)))
    (λ e. rw e (inl (part_changed f change test same xs)))

pub pairs_map : {A B : Type 0} (R : A → A → Type 0) (S : B → B → Type 0) (f : A → B) → ((x y : A) → R x y → S (f x) (f y)) → (xs : List A) → AllPairs R xs → AllPairs S (map f xs)
pairs_map R S f h [] all = pairs_none S
pairs_map R S f h (x ∷ xs) all =
    let first : All (λ y. S (f x) (f y)) xs = λ k d within. h x (get_or xs k d) (all 0 (suc k) d (omega arith) (omega arith)) in
    let rest : AllPairs R xs = λ i j d before within. all (suc i) (suc j) d (omega arith) (omega arith) in
    AllPairs-cons S (f x) (map f xs) (All-map (S (f x)) f xs first) (pairs_map R S f h xs rest)

pub sum_kept : {A : Type 0} (f : A → ℕ) (change : A → A) (test : A → Bool) → ((x : A) → f (change x) ≡ f x) → (xs : List A) → sum_by f (map change (filter test xs)) ≤ sum_by f xs
sum_kept f change test same [] = omega arith
sum_kept f change test same (x ∷ xs) =
    let ih = sum_kept f change test same xs in
    let whole = sum_by-cons f x xs in
    let part = sum_by-cons f (change x) (map change (filter test xs)) in
    let one = same x in
    both (test x) (λ e. rw e (omega arith)) (λ e. rw e (omega arith))

pub few_kept : {A : Type 0} (test : A → Bool) (xs : List A) → length (filter test xs) ≤ length xs
few_kept test xs = rw (length-filter test xs) (count_by-le-length test xs)

-- what is kept is at its place among the kept
pub get_kept : {A : Type 0} (test : A → Bool) (y : A) → test y ≡ true → (xs : List A) (k : ℕ) → slice_get xs k ≡ Some y → slice_get (filter test xs) (rank test xs k) ≡ Some y
get_kept test y e [] k h = cc
get_kept test y e (x ∷ xs) zero h = let s : x ≡ y = cc in let k : test x ≡ true = ap test s ∙ e in rw k h
get_kept test y e (x ∷ xs) (suc k) h = both (test x) (λ b. rw b (get_kept test y e xs k h)) (λ b. rw b (get_kept test y e xs k h))

-- two that are kept have different places
pub rank_apart : {A : Type 0} (test : A → Bool) (x y : A) → test x ≡ true → test y ≡ true → (zs : List A) (j k : ℕ) → slice_get zs j ≡ Some x → slice_get zs k ≡ Some y → rank test zs j ≡ rank test zs k → j ≡ k
rank_apart test x y p q [] j k at_x at_y e = cc
rank_apart test x y p q (z ∷ zs) zero zero at_x at_y e = refl
rank_apart test x y p q (z ∷ zs) zero (suc k) at_x at_y e =
    let s : z ≡ x = cc in let t : test z ≡ true = ap test s ∙ p in
    let h : 0 ≡ suc (rank test zs k) = rw t at e in absurd (omega arith)
rank_apart test x y p q (z ∷ zs) (suc j) zero at_x at_y e =
    let s : z ≡ y = cc in let t : test z ≡ true = ap test s ∙ q in
    let h : suc (rank test zs j) ≡ 0 = rw t at e in absurd (omega arith)
rank_apart test x y p q (z ∷ zs) (suc j) (suc k) at_x at_y e = both (test z)
    (λ b. let h : suc (rank test zs j) ≡ suc (rank test zs k) = rw b at e in ap suc (rank_apart test x y p q zs j k at_x at_y (omega arith)))
    (λ b. let h : rank test zs j ≡ rank test zs k = rw b at e in ap suc (rank_apart test x y p q zs j k at_x at_y h))
