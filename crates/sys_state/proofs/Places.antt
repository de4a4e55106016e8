-- Elements by their places.
use Rattle.std.proofs.Common.{ℕ, ◌≡◌, ◌<◌, List, [], ◌∷◌, ◌++◌, refl, sym, ◌∙◌, ap, Bool, true, false, if◌then◌else◌, suc, append-nil, arith}

pub both : {A : Type 0} (b : Bool) → (b ≡ true → A) → (b ≡ false → A) → A
both true f g = f refl
both false f g = g refl

-- each element by its place, from the i-th on
abbrev pub each_at : {X Y : Type 0} → (ℕ → X → Y) → ℕ → List X → List Y
each_at f i [] = []
each_at f i (x ∷ xs) = f i x ∷ each_at f (suc i) xs

abbrev pub all_at : {X Y : Type 0} → (ℕ → X → List Y) → ℕ → List X → List Y
all_at f i [] = []
all_at f i (x ∷ xs) = f i x ++ all_at f (suc i) xs

pub same_each : {X Y : Type 0} (f h : ℕ → X → Y) → ((i : ℕ) (x : X) → f i x ≡ h i x) → (i : ℕ) (xs : List X) → each_at f i xs ≡ each_at h i xs
same_each f h e i [] = refl
same_each f h e i (x ∷ xs) = let a = e i x in let b = same_each f h e (suc i) xs in λ j. a j ∷ b j

pub same_all : {X Y : Type 0} (f h : ℕ → X → List Y) → ((i : ℕ) (x : X) → f i x ≡ h i x) → (i : ℕ) (xs : List X) → all_at f i xs ≡ all_at h i xs
same_all f h e i [] = refl
same_all f h e i (x ∷ xs) = let a = e i x in let b = same_all f h e (suc i) xs in λ j. a j ++ b j

pub each_twice : {X : Type 0} (f h : ℕ → X → X) (i : ℕ) (xs : List X) → each_at f i (each_at h i xs) ≡ each_at (λ i x. f i (h i x)) i xs
each_twice f h i [] = refl
each_twice f h i (x ∷ xs) = ap (λ ys. f i (h i x) ∷ ys) (each_twice f h (suc i) xs)

pub all_of_each : {X Y : Type 0} (f : ℕ → X → List Y) (h : ℕ → X → X) (i : ℕ) (xs : List X) → all_at f i (each_at h i xs) ≡ all_at (λ i x. f i (h i x)) i xs
all_of_each f h i [] = refl
all_of_each f h i (x ∷ xs) = ap (λ ys. f i (h i x) ++ ys) (all_of_each f h (suc i) xs)

-- at most one place passes
abbrev pub only : {X Y : Type 0} → (ℕ → Bool) → (ℕ → X → List Y) → ℕ → X → List Y
only p f i x = if p i then f i x else []

none_at : {X Y : Type 0} (p : ℕ → Bool) (f : ℕ → X → List Y) (i : ℕ) → ((j : ℕ) → i < suc j → p j ≡ false) → (xs : List X) → all_at (only p f) i xs ≡ []
none_at p f i h [] = refl
none_at p f i h (x ∷ xs) = let e = h i (omega arith) in rw e (none_at p f (suc i) (λ j l. h j (omega arith)) xs)

-- two bursts of the one that passes are its one longer burst
pub joined : {X Y : Type 0} (p : ℕ → Bool) → ((i j : ℕ) → p i ≡ true → p j ≡ true → i ≡ j) → (f h : ℕ → X → List Y) (i : ℕ) (xs : List X) → all_at (only p f) i xs ++ all_at (only p h) i xs ≡ all_at (only p (λ i x. f i x ++ h i x)) i xs
joined p u f h i [] = refl
joined p u f h i (x ∷ xs) = both (p i) (λ e.
    let later : (j : ℕ) → suc i < suc j → p j ≡ false = λ j l. both (p j) (λ d. absurd (apart i j l (u i j e d))) (λ d. d) in
    let a = none_at p f (suc i) later xs in
    let b = none_at p h (suc i) later xs in
    let c = none_at p (λ i x. f i x ++ h i x) (suc i) later xs in
    rw e ((λ k. (f i x ++ a k) ++ (h i x ++ b k)) ∙ (λ k. append-nil (f i x) k ++ append-nil (h i x) k) ∙ sym (append-nil (f i x ++ h i x)) ∙ sym (λ k. (f i x ++ h i x) ++ c k))) (λ e. rw e (joined p u f h (suc i) xs))
  where
    apart : (i j : ℕ) → suc i < suc j → i ≡ j → ⊥
    apart i j l q = omega arith
