-- What is kept of the first n of two lists.
use Rattle.std.proofs.Common.{◌≡◌, ◌<◌, ◌≤◌, ◌+◌, ℕ, zero, suc, List, [], ◌∷◌, ◌++◌, length, map, take, refl, sym, ap, ◌∙◌, get_or, Bool, true, false, if◌then◌else◌, ◌⊎◌, inl, inr, add-one, arith}
use Rattle.std.proofs.lemmas.List.{get_or-map, length-map, map-append}
use Rattle.sys_purge.proofs.Kept.{both}
use Rattle.sys_purge.specs.Input.{beside}

abbrev pub one_if : {Y : Type 0} → Bool → Y → List Y
one_if b y = if b then y ∷ [] else []

one_more : {X Y : Type 0} (test : X → Bool) (xs : List X) (ys : List Y) (k : ℕ) (x : X) (y : Y) → k < length xs → k < length ys
    → beside test (take (suc k) xs) (take (suc k) ys) ≡ beside test (take k xs) (take k ys) ++ one_if (test (get_or xs k x)) (get_or ys k y)
one_more test [] ys k x y h g = absurd (omega (arith, h))
one_more test (z ∷ zs) [] k x y h g = absurd (omega (arith, g))
one_more test (z ∷ zs) (w ∷ ws) zero x y h g = both (test z) (λ e. rw e refl) (λ e. rw e refl)
one_more test (z ∷ zs) (w ∷ ws) (suc k) x y h g =
    let rest = one_more test zs ws k x y (omega (arith, h)) (omega (arith, g)) in
    both (test z) (λ e. rw e (ap (λ us. w ∷ us) rest)) (λ e. rw e rest)

pub beside_more : {X Y : Type 0} (test : X → Bool) (xs : List X) (ys : List Y) (k : ℕ) (x : X) (y : Y) → k < length xs → k < length ys
    → beside test (take (k + 1) xs) (take (k + 1) ys) ≡ beside test (take k xs) (take k ys) ++ one_if (test (get_or xs k x)) (get_or ys k y)
beside_more test xs ys k x y h g = ap (λ (n : ℕ). beside test (take n xs) (take n ys)) (add-one k) ∙ one_more test xs ys k x y h g

pub beside_all : {X Y : Type 0} (test : X → Bool) (xs : List X) (ys : List Y) (k : ℕ) → k ≤ length xs → k ≤ length ys → (k ≡ length xs) ⊎ (k ≡ length ys) → beside test (take k xs) (take k ys) ≡ beside test xs ys
beside_all test [] ys zero h g e = refl
beside_all test [] ys (suc k) h g e = absurd (omega (arith, h))
beside_all test (x ∷ xs) [] zero h g e = refl
beside_all test (x ∷ xs) [] (suc k) h g e = absurd (omega (arith, g))
beside_all test (x ∷ xs) (y ∷ ys) zero h g (inl e) = absurd (omega (arith, e))
beside_all test (x ∷ xs) (y ∷ ys) zero h g (inr e) = absurd (omega (arith, e))
beside_all test (x ∷ xs) (y ∷ ys) (suc k) h g (inl e) =
    let rest = beside_all test xs ys k (omega (arith, h)) (omega (arith, g)) (inl (omega (arith, e))) in
    both (test x) (λ b. rw b (ap (λ us. y ∷ us) rest)) (λ b. rw b rest)
beside_all test (x ∷ xs) (y ∷ ys) (suc k) h g (inr e) =
    let rest = beside_all test xs ys k (omega (arith, h)) (omega (arith, g)) (inr (omega (arith, e))) in
    both (test x) (λ b. rw b (ap (λ us. y ∷ us) rest)) (λ b. rw b rest)

none_more : {X Y : Type 0} (test : X → Bool) (xs : List X) (ys : List Y) (k : ℕ) (x : X) → k < length xs → k < length ys → test (get_or xs k x) ≡ false → beside test (take (suc k) xs) (take (suc k) ys) ≡ beside test (take k xs) (take k ys)
none_more test [] ys k x h g e = absurd (omega (arith, h))
none_more test (z ∷ zs) [] k x h g e = absurd (omega (arith, g))
none_more test (z ∷ zs) (w ∷ ws) zero x h g e = rw e refl
none_more test (z ∷ zs) (w ∷ ws) (suc k) x h g e =
    let rest = none_more test zs ws k x (omega (arith, h)) (omega (arith, g)) e in
    both (test z) (λ b. rw b (ap (λ us. w ∷ us) rest)) (λ b. rw b rest)

-- what is kept of one more: a copy of its element, or nothing
module _ {X V Y : Type 0} (f : V → Y) (test : X → Bool) (xs : List X) (vs : List V) (k : ℕ) (kept : List V) (x : X) where
  abbrev pub Keeps : ℕ → List V → Type 0
  Keeps n us = map f us ≡ beside test (take n xs) (take n (map f vs))

  pub keeps_one : (v : V) → k < length xs → k < length vs → Keeps k kept → test (get_or xs k x) ≡ true → (new : V) → f new ≡ f (get_or vs k v) → Keeps (k + 1) (kept ++ new ∷ [])
  keeps_one v h g e t new same =
      let more = beside_more test xs (map f vs) k x (f v) h (omega (arith, g, length-map vs f)) in
      let one : one_if (test (get_or xs k x)) (get_or (map f vs) k (f v)) ≡ f new ∷ [] = rw t (ap (λ (y : Y). y ∷ []) (get_or-map f vs k v (f v) g ∙ sym same)) in
      map-append f kept (new ∷ []) ∙ (λ i. e i ++ sym one i) ∙ sym more

  pub keeps_none : k < length xs → k < length vs → Keeps k kept → test (get_or xs k x) ≡ false → Keeps (k + 1) kept
  keeps_none h g e t = e ∙ sym (ap (λ (n : ℕ). beside test (take n xs) (take n (map f vs))) (add-one k) ∙ none_more test xs (map f vs) k x h (omega (arith, g, length-map vs f)) t)

-- what is kept of all
pub keeps_all : {X V Y : Type 0} (f : V → Y) (test : X → Bool) (rows xs : List X) (vs : List V) (k : ℕ) (kept : List V) → xs ≡ rows → k ≤ length xs → k ≤ length vs → (k ≡ length xs) ⊎ (k ≡ length vs)
    → map f kept ≡ beside test (take k xs) (take k (map f vs)) → map f kept ≡ beside test rows (map f vs)
keeps_all f test rows xs vs k kept same h g end e =
    let size = length-map vs f in
    e ∙ beside_all test xs (map f vs) k h (omega (arith, g, size)) (as_long end size) ∙ ap (λ us. beside test us (map f vs)) same
  where
    as_long : {m n l : ℕ} → (k ≡ m) ⊎ (k ≡ n) → l ≡ n → (k ≡ m) ⊎ (k ≡ l)
    as_long (inl a) b = inl a
    as_long (inr a) b = inr (a ∙ sym b)
