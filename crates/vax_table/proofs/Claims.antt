-- Laws of what interactions claim.
use Rattle.std.proofs.Common.{◌≡◌, ℕ, List, [], ◌++◌, Result, Ok, Err, refl, ap, ◌∙◌, sym, subst, append_assoc, append-nil}
use Rattle.vax_arch.specs.declared.mode.Intent.{Intent}
use Rattle.vax_table.specs.Claims.{addresses, if_write, claims, Holds}
use Rattle.vax_table.specs.Interaction.{Trouble, Space, number_at, Interaction, Done, Refuse, Touch, ◌>>=◌, by_result, outcome, Below, AsFar}
use Rattle.vax_table.proofs.Scripts.{number_far}

claims_same_on : {A : Type 0} (s t : Space) (f : ℕ → Interaction A) (x : A) (r q : Result ℕ Trouble) → AsFar s t r q → ((v : ℕ) → outcome s (f v) ≡ Ok x → claims t (f v) ≡ claims s (f v)) → by_result r (λ v. outcome s (f v)) Err ≡ Ok x → by_result q (λ v. claims t (f v)) (λ t. []) ≡ by_result r (λ v. claims s (f v)) (λ t. [])
claims_same_on s t f x (Ok v) q far next e = ap (λ z. by_result z (λ v. claims t (f v)) (λ t. [])) far ∙ next v e
claims_same_on s t f x (Err u) q far next e = cc

-- where an interaction completes over the lower space, it claims the same over the upper one
pub claims_same : {A : Type 0} (s t : Space) → Below s t → (m : Interaction A) (x : A) → outcome s m ≡ Ok x → claims t m ≡ claims s m
claims_same s t below (Done a) x e = refl
claims_same s t below (Refuse k) x e = refl
claims_same s t below (Touch i a k f) x e = ap (λ z. if_write i (addresses k a) ++ z) (claims_same_on s t f x _ _ (number_far s t below i k a) (λ v g. claims_same s t below (f v) x g) e)

holds_on : {A : Type 0} (P : List ℕ → A → Type 0) (s : Space) (cs ds : List ℕ) (f : ℕ → Interaction A) (x : A) (r : Result ℕ Trouble) → ((v : ℕ) → outcome s (f v) ≡ Ok x → P ((cs ++ ds) ++ claims s (f v)) x) → by_result r (λ v. outcome s (f v)) Err ≡ Ok x → P (cs ++ (ds ++ by_result r (λ v. claims s (f v)) (λ t. []))) x
holds_on P s cs ds f x (Ok v) h e = subst (λ z. P z x) (append_assoc cs ds (claims s (f v))) (h v e)
holds_on P s cs ds f x (Err t) h e = cc

-- what holds at each end holds of the outcome and all that was claimed
pub holds_made : {A : Type 0} (P : List ℕ → A → Type 0) (s : Space) (cs : List ℕ) (m : Interaction A) (x : A) → Holds P cs m → outcome s m ≡ Ok x → P (cs ++ claims s m) x
holds_made P s cs (Done a) x h e = let same : a ≡ x = cc in subst (λ z. P z x) (sym (append-nil cs)) (subst (P cs) same h)
holds_made P s cs (Refuse t) x h e = cc
holds_made P s cs (Touch i a k f) x h e = holds_on P s cs (if_write i (addresses k a)) f x (number_at s i k a) (λ v g. holds_made P s (cs ++ if_write i (addresses k a)) (f v) x (h v) g) e

-- one interaction and then another
pub holds-bind : {A B : Type 0} (Q : List ℕ → A → Type 0) (P : List ℕ → B → Type 0) (cs : List ℕ) (m : Interaction A) (g : A → Interaction B) → Holds Q cs m → ((ds : List ℕ) (a : A) → Q ds a → Holds P ds (g a)) → Holds P cs (m >>= g)
holds-bind Q P cs (Done a) g h k = k cs a h
holds-bind Q P cs (Refuse t) g h k = tt
holds-bind Q P cs (Touch i a n f) g h k = λ v. holds-bind Q P (cs ++ if_write i (addresses n a)) (f v) g (h v) k

-- what holds at each end, weakened
pub holds_then : {A : Type 0} (Q P : List ℕ → A → Type 0) (cs : List ℕ) (m : Interaction A) → Holds Q cs m → ((ds : List ℕ) (a : A) → Q ds a → P ds a) → Holds P cs m
holds_then Q P cs (Done a) h k = k cs a h
holds_then Q P cs (Refuse t) h k = tt
holds_then Q P cs (Touch i a n f) h k = λ v. holds_then Q P (cs ++ if_write i (addresses n a)) (f v) (h v) k

-- what holds of everything
pub holds_always : {A : Type 0} (P : List ℕ → A → Type 0) (cs : List ℕ) (m : Interaction A) → ((ds : List ℕ) (a : A) → P ds a) → Holds P cs m
holds_always P cs (Done a) h = h cs a
holds_always P cs (Refuse t) h = tt
holds_always P cs (Touch i a n f) h = λ v. holds_always P (cs ++ if_write i (addresses n a)) (f v) h
