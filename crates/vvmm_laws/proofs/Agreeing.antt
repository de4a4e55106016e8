-- Interactions over two spaces that answer alike at each address that is asked for.
use Rattle.std.proofs.Common.{◌≡◌, ℕ, zero, suc, ◌+◌, ◌%◌, ◌^◌, Bool, ◌⊎◌, inl, inr, List, [], ◌∷◌, ◌++◌, Some, Result, Ok, Err, refl, ap, ◌∙◌, sym, subst}
use Rattle.std.specs.Prelude.{if◌then◌else◌}
use Rattle.vax_arch.specs.declared.mode.Intent.{Intent}
use Rattle.vax_arch.specs.declared.mode.Intent.TheVariants as intents
use Rattle.vax_table.specs.Claims.{AreAmong, addresses, claims, if_write}
use Rattle.vax_table.specs.Interaction.{Cause, Done, Interaction, IsIn, Refuse, Space, Touch, Trouble, by_result, asked, interpreted, number_at, outcome, reached, with_byte}
use Rattle.vax_table.specs.Tries.{first_clear, tried, tried_by, unless_clear}
use Rattle.vax_table.proofs.Among.{among_back, among_front, in_either}
use Rattle.vax_table.proofs.Answered.{made_of}

-- the second answers as the first at these addresses
abbrev pub AnswersThere : Space → Space → List ℕ → Type 0
AnswersThere s t xs = (i : Intent) (a : ℕ) → IsIn a xs → t i a ≡ s i a

fewer : (s t : Space) (xs ys : List ℕ) → AreAmong xs ys → AnswersThere s t ys → AnswersThere s t xs
fewer s t xs ys among h i a g = h i a (among a g)

byte_same : (P : List ℕ → Type 0) (i : Intent) (a : ℕ) (x : Result ℕ Cause) (r q : Result ℕ Trouble) (rest : List ℕ) → P (by_result x (λ b. rest) (λ c. [])) → (P rest → q ≡ r) → with_byte i a x q ≡ with_byte i a x r
byte_same P i a (Err c) r q rest h next = refl
byte_same P i a (Ok b) r q rest h next = ap (with_byte i a (Ok b)) (next h)

number_same : (s t : Space) (i : Intent) (k a : ℕ) → AnswersThere s t (asked s i k a) → number_at t i k a ≡ number_at s i k a
number_same s t i zero a h = refl
number_same s t i (suc k) a h =
    ap (λ (x : Result ℕ Cause). with_byte i (a % 2 ^ 32) x (number_at t i k (a + 1))) (h i (a % 2 ^ 32) (inl refl))
    ∙ byte_same (AnswersThere s t) i (a % 2 ^ 32) (s i (a % 2 ^ 32)) (number_at s i k (a + 1)) (number_at t i k (a + 1)) (asked s i k (a + 1)) (λ j x g. h j x (inr g)) (number_same s t i k (a + 1))

touch_same : {E B : Type 0} (P : List ℕ → Type 0) (stops : E → B) (f g : ℕ → B) (more : ℕ → List ℕ) (r : Result ℕ E) → P (by_result r more (λ e. [])) → ((v : ℕ) → P (more v) → g v ≡ f v) → by_result r g stops ≡ by_result r f stops
touch_same P stops f g more (Ok v) h next = next v h
touch_same P stops f g more (Err t) h next = refl

interpreted_same : {A B : Type 0} (s t : Space) (done : A → B) (stops : Trouble → B) (touched : Intent → (at size : ℕ) → B → B) (m : Interaction A) → AnswersThere s t (reached s m) →
    interpreted t done stops touched m ≡ interpreted s done stops touched m
interpreted_same s t done stops touched (Done a) h = refl
interpreted_same s t done stops touched (Refuse r) h = refl
interpreted_same s t done stops touched (Touch i a k f) h =
    let here = asked s i k a in
    let later = by_result (number_at s i k a) (λ v. reached s (f v)) (λ u. []) in
    let next = touch_same (AnswersThere s t) stops (λ v. interpreted s done stops touched (f v)) (λ v. interpreted t done stops touched (f v)) (λ v. reached s (f v)) (number_at s i k a)
    (fewer s t later (here ++ later) (among_back here later) h) (λ v g. interpreted_same s t done stops touched (f v) g) in
    ap (touched i a k) (ap (λ r. by_result r (λ v. interpreted t done stops touched (f v)) stops) (number_same s t i k a (fewer s t here (here ++ later) (among_front here later) h)) ∙ next)

pub outcome_same : {A : Type 0} (s t : Space) (m : Interaction A) → AnswersThere s t (reached s m) → outcome t m ≡ outcome s m
outcome_same s t m h = interpreted_same s t Ok Err (λ i a k rest. rest) m h

claims_same : {A : Type 0} (s t : Space) (m : Interaction A) → AnswersThere s t (reached s m) → claims t m ≡ claims s m
claims_same s t m h = interpreted_same s t (λ a. []) (λ u. []) (λ i a k rest. if_write i (addresses k a) ++ rest) m h

asked_same : (s t : Space) (i : Intent) (k a : ℕ) → AnswersThere s t (asked s i k a) → asked t i k a ≡ asked s i k a
asked_same s t i zero a h = refl
asked_same s t i (suc k) a h =
    ap (λ x. a % 2 ^ 32 ∷ by_result x (λ b. (asked t i k (a + 1))) (λ c. [])) (h i (a % 2 ^ 32) (inl refl))
    ∙ ap (λ xs. a % 2 ^ 32 ∷ xs) (touch_same (AnswersThere s t) (λ c. []) (λ b. asked s i k (a + 1)) (λ b. asked t i k (a + 1)) (λ b. asked s i k (a + 1)) (s i (a % 2 ^ 32)) (λ j x g. h j x (inr g)) (λ b g. asked_same s t i k (a + 1) g))

-- the same addresses are asked for
pub reached_same : {A : Type 0} (s t : Space) (m : Interaction A) → AnswersThere s t (reached s m) → reached t m ≡ reached s m
reached_same s t (Done a) h = refl
reached_same s t (Refuse r) h = refl
reached_same s t (Touch i a k f) h =
    let here = asked s i k a in
    let later = by_result (number_at s i k a) (λ v. reached s (f v)) (λ t. []) in
    let at_front = fewer s t here (here ++ later) (among_front here later) h in
    ap (λ xs. xs ++ by_result (number_at t i k a) (λ v. reached t (f v)) (λ t. [])) (asked_same s t i k a at_front)
    ∙ ap (λ r. here ++ by_result r (λ v. reached t (f v)) (λ t. [])) (number_same s t i k a at_front)
    ∙ ap (λ xs. here ++ xs) (touch_same (AnswersThere s t) (λ u. []) (λ v. reached s (f v)) (λ v. reached t (f v)) (λ v. reached s (f v)) (number_at s i k a) (fewer s t later (here ++ later) (among_back here later) h) (λ v g. reached_same s t (f v) g))

-- What an interaction that completes claims is among what it asks for.

all_asked : (s : Space) (i : Intent) (k a n : ℕ) → number_at s i k a ≡ Ok n → asked s i k a ≡ addresses k a
all_asked s i zero a n e = refl
all_asked s i (suc k) a n e =
    let made = made_of i (a % 2 ^ 32) n (s i (a % 2 ^ 32)) (number_at s i k (a + 1)) e in
    ap (λ x. a % 2 ^ 32 ∷ by_result x (λ b. (asked s i k (a + 1))) (λ c. [])) made.0.1 ∙ ap (λ xs. a % 2 ^ 32 ∷ xs) (all_asked s i k (a + 1) made.1.0 made.1.1)

written_among : (i : Intent) (xs : List ℕ) → AreAmong (if_write i xs) xs
written_among intents.Read xs x h = absurd h
written_among intents.Write xs x h = h

both_among : (xs ys zs ws : List ℕ) → AreAmong xs ys → AreAmong zs ws → AreAmong (xs ++ zs) (ys ++ ws)
both_among xs ys zs ws f g x h = elim (in_either x xs zs h) [ inl k ↦ among_front ys ws x (f x k) | inr k ↦ among_back ys ws x (g x k) ]

touch_among : {A : Type 0} (s : Space) (i : Intent) (k a : ℕ) (f : ℕ → Interaction A) (x : A) (r : Result ℕ Trouble) → number_at s i k a ≡ r → ((v : ℕ) → outcome s (f v) ≡ Ok x → AreAmong (claims s (f v)) (reached s (f v))) → by_result r (λ v. outcome s (f v)) Err ≡ Ok x →
    AreAmong (if_write i (addresses k a) ++ by_result r (λ v. claims s (f v)) (λ t. [])) (asked s i k a ++ by_result r (λ v. reached s (f v)) (λ t. []))
touch_among s i k a f x (Ok n) is next e =
    both_among (if_write i (addresses k a)) (asked s i k a) (claims s (f n)) (reached s (f n))
    (subst (λ (ys : List ℕ). AreAmong (if_write i (addresses k a)) ys) (sym (all_asked s i k a n is)) (written_among i (addresses k a))) (next n e)
touch_among s i k a f x (Err t) is next e = cc

pub claims_reached : {A : Type 0} (s : Space) (m : Interaction A) (x : A) → outcome s m ≡ Ok x → AreAmong (claims s m) (reached s m)
claims_reached s (Done a) x e = λ y h. h
claims_reached s (Refuse r) x e = λ y h. h
claims_reached s (Touch i a k f) x e = touch_among s i k a f x (number_at s i k a) refl (λ v g. claims_reached s (f v) x g) e

-- Tries.

clear_same : (c d : ℕ → Bool) (vas : List ℕ) → ((va : ℕ) → IsIn va vas → d va ≡ c va) → first_clear d vas ≡ first_clear c vas
clear_same c d [] h = refl
clear_same c d (va ∷ vas) h =
    ap (λ (x : Bool). if x then Some va else first_clear d vas) (h va (inl refl))
    ∙ ap (λ rest. if c va then Some va else rest) (clear_same c d vas (λ x g. h x (inr g)))

tried_on : {A : Type 0} (s : Space) (c d : ℕ → Bool) (m : Interaction A) (r : Result A Trouble) → outcome s m ≡ r → ((va : ℕ) → IsIn va (reached s m) → d va ≡ c va) → tried_by d (claims s m) r ≡ tried_by c (claims s m) r
tried_on s c d m (Ok x) is marks = ap (unless_clear x) (clear_same c d (claims s m) (λ va h. marks va (claims_reached s m x is va h)))
tried_on s c d m (Err t) is marks = refl

-- a try depends on its space and modify bits only at the addresses that are asked for
pub tried_same : {A : Type 0} (s t : Space) (c d : ℕ → Bool) (m : Interaction A) → AnswersThere s t (reached s m) → ((va : ℕ) → IsIn va (reached s m) → d va ≡ c va) → tried t d m ≡ tried s c m
tried_same s t c d m h marks =
    ap (λ vas. tried_by d vas (outcome t m)) (claims_same s t m h)
    ∙ ap (tried_by d (claims s m)) (outcome_same s t m h)
    ∙ tried_on s c d m (outcome s m) refl marks
