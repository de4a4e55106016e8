-- Laws of interactions over two spaces, of which one answers wherever the other does.
use Rattle.std.proofs.Common.{◌≡◌, ℕ, zero, suc, ◌+◌, ◌%◌, ◌^◌, ◌⊎◌, inl, inr, List, [], ◌∷◌, ◌++◌, Result, Ok, Err, refl, ap, ◌∙◌, sym, subst}
use Rattle.vax_arch.specs.declared.mode.Intent.{Intent}
use Rattle.vax_table.specs.Interaction.{Cause, Trouble, At, Test, Space, with_byte, number_at, Interaction, Done, Refuse, Touch, ◌>>=◌, by_result, outcome, asked, reached, Below, AsFar, IsIn}
use Rattle.vax_table.proofs.Among.{among_back, among_front}

-- one byte more of a number
byte_far : (s t : Space) (i : Intent) (a : ℕ) (x y : Result ℕ Cause) (r q : Result ℕ Trouble) → s i a ≡ x → t i a ≡ y → ((b : ℕ) → x ≡ Ok b → y ≡ Ok b) → AsFar s t r q → AsFar s t (with_byte i a x r) (with_byte i a y q)
byte_far s t i a (Err c) y r q ex ey below far = (ex, λ d e. ap (λ z. with_byte i a z q) (sym ey ∙ e))
byte_far s t i a (Ok b) y (Ok n) q ex ey below far = ap (λ z. with_byte i a z q) (below b refl) ∙ ap (with_byte i a (Ok b)) far
byte_far s t i a (Ok b) y (Err (Test k)) q ex ey below far = ap (λ z. with_byte i a z q) (below b refl) ∙ ap (with_byte i a (Ok b)) far
byte_far s t i a (Ok b) y (Err (At c j p)) q ex ey below far = (far.0, λ d e. ap (λ z. with_byte i a z q) (below b refl) ∙ ap (with_byte i a (Ok b)) (far.1 d e))

pub number_far : (s t : Space) → Below s t → (i : Intent) (k a : ℕ) → AsFar s t (number_at s i k a) (number_at t i k a)
number_far s t below i zero a = refl
number_far s t below i (suc k) a = byte_far s t i (a % 2 ^ 32) (s i (a % 2 ^ 32)) (t i (a % 2 ^ 32)) _ _ refl refl (below i (a % 2 ^ 32)) (number_far s t below i k (a + 1))

bind_far : {A : Type 0} (s t : Space) (r q : Result ℕ Trouble) (g h : ℕ → Result A Trouble) → AsFar s t r q → ((v : ℕ) → AsFar s t (g v) (h v)) → AsFar s t (by_result r g Err) (by_result q h Err)
bind_far s t (Ok v) q g h far next = subst (λ z. AsFar s t (g v) (by_result z h Err)) (sym far) (next v)
bind_far s t (Err (Test k)) q g h far next = ap (λ z. by_result z h Err) far
bind_far s t (Err (At c i a)) q g h far next = (far.0, λ d e. ap (λ z. by_result z h Err) (far.1 d e))

-- locality and prefix in one: the outcome is the same, but for an access at which the lower space is silent
pub outcome_far : {A : Type 0} (s t : Space) → Below s t → (m : Interaction A) → AsFar s t (outcome s m) (outcome t m)
outcome_far s t below (Done a) = refl
outcome_far s t below (Refuse k) = refl
outcome_far s t below (Touch i a k f) = bind_far s t (number_at s i k a) (number_at t i k a) _ _ (number_far s t below i k a) (λ v. outcome_far s t below (f v))

again : {A B C : Type 0} (r : Result A Trouble) (g : A → Result B Trouble) (h : B → Result C Trouble) (k : A → Result C Trouble) → ((a : A) → k a ≡ by_result (g a) h Err) → by_result r k Err ≡ by_result (by_result r g Err) h Err
again (Ok a) g h k e = e a
again (Err t) g h k e = refl

-- what comes first has its trouble first
pub outcome-bind : {A B : Type 0} (s : Space) (m : Interaction A) (g : A → Interaction B) → outcome s (m >>= g) ≡ by_result (outcome s m) (λ a. outcome s (g a)) Err
outcome-bind s (Done a) g = refl
outcome-bind s (Refuse t) g = refl
outcome-bind s (Touch i a k f) g = again (number_at s i k a) _ _ _ (λ v. outcome-bind s (f v) g)

pub ruleset binds = (outcome-bind)

-- the byte at which a number has its trouble over the lower space is asked for over the upper one
asked_trouble_on : (i j : Intent) (a va : ℕ) (c : Cause) (x y : Result ℕ Cause) (r : Result ℕ Trouble) (rest : List ℕ) → ((b : ℕ) → x ≡ Ok b → y ≡ Ok b) → (r ≡ Err (At c j va) → IsIn va rest) → with_byte i a x r ≡ Err (At c j va) → (va ≡ a) ⊎ IsIn va (by_result y (λ b. rest) (λ c. []))
asked_trouble_on i j a va c (Err d) y r rest below ih e = let same : a ≡ va = cc in inl (sym same)
asked_trouble_on i j a va c (Ok b) y (Ok n) rest below ih e = cc
asked_trouble_on i j a va c (Ok b) y (Err t) rest below ih e = let same : t ≡ At c j va = cc in inr (subst (λ z. IsIn va (by_result z (λ b. rest) (λ c. []))) (sym (below b refl)) (ih (ap Err same)))

asked_trouble : (s t : Space) → Below s t → (i j : Intent) (k a va : ℕ) (c : Cause) → number_at s i k a ≡ Err (At c j va) → IsIn va (asked t i k a)
asked_trouble s t below i j zero a va c e = cc
asked_trouble s t below i j (suc k) a va c e = asked_trouble_on i j (a % 2 ^ 32) va c (s i (a % 2 ^ 32)) (t i (a % 2 ^ 32)) (number_at s i k (a + 1)) (asked t i k (a + 1)) (below i (a % 2 ^ 32)) (λ h. asked_trouble s t below i j k (a + 1) va c h) e

trouble_reached_on : {A : Type 0} (s t : Space) (j : Intent) (va : ℕ) (c : Cause) (f : ℕ → Interaction A) (r q : Result ℕ Trouble) (here : List ℕ) → AsFar s t r q → (r ≡ Err (At c j va) → IsIn va here) → ((v : ℕ) → outcome s (f v) ≡ Err (At c j va) → IsIn va (reached t (f v))) → by_result r (λ v. outcome s (f v)) Err ≡ Err (At c j va) → IsIn va (here ++ by_result q (λ v. reached t (f v)) (λ t. []))
trouble_reached_on s t j va c f (Ok v) q here far h ih e = among_back here _ va (subst (λ z. IsIn va (by_result z (λ v. reached t (f v)) (λ t. []))) (sym far) (ih v e))
trouble_reached_on s t j va c f (Err u) q here far h ih e = let same : u ≡ At c j va = cc in among_front here _ va (h (ap Err same))

-- a byte that has trouble over the lower space is among those that are asked for over the upper one
pub trouble_reached : {A : Type 0} (s t : Space) → Below s t → (m : Interaction A) (j : Intent) (va : ℕ) (c : Cause) → outcome s m ≡ Err (At c j va) → IsIn va (reached t m)
trouble_reached s t below (Done a) j va c e = cc
trouble_reached s t below (Refuse k) j va c e = cc
trouble_reached s t below (Touch i a k f) j va c e = trouble_reached_on s t j va c f (number_at s i k a) (number_at t i k a) (asked t i k a) (number_far s t below i k a) (λ h. asked_trouble s t below i j k a va c h) (λ v h. trouble_reached s t below (f v) j va c h) e
