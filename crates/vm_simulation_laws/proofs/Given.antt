-- The bytes that a space gives an interaction, and the one that it lacks.
use Rattle.std.proofs.Common.{◌≡◌, ℕ, zero, suc, ◌+◌, ◌-◌, ◌%◌, ◌^◌, ◌<◌, ◌⊎◌, inl, inr, List, [], ◌∷◌, ◌++◌, length, map, take, drop, Result, Ok, Err, refl, ap, ◌∙◌, sym, subst, arith, append_assoc, append-nil}
use Rattle.std.proofs.lemmas.List.{length-append}
use Rattle.std.proofs.Math.Seq.{drop-append_seam, take-append_seam}
use Rattle.vax_arch.specs.Walk.{page_of}
use Rattle.vax_arch.specs.declared.mode.Intent.{Intent}
use Rattle.vax_table.specs.Interaction.{AsFar, At, Below, Cause, Done, Interaction, IsIn, Refuse, Space, Test, Touch, Trouble, asked, by_result, gathered, number_at, outcome, reached, with_byte}
use Rattle.vax_table.proofs.Among.{among_back, among_front, in_either}
use Rattle.vax_table.proofs.Scripts.{number_far}
use Rattle.vm_simulation_laws.proofs.Narrow.{AreAlike, low, number_alike}
use Rattle.vm_state.specs.Step.{pages_touched}

abbrev pub if_given : ℕ → Result ℕ Cause → List ℕ → List ℕ
if_given a (Ok b) more = a ∷ more
if_given a (Err c) more = []

-- the bytes of a number, up to the first that has trouble
abbrev pub bytes_given : Space → Intent → ℕ → ℕ → List ℕ
bytes_given s i zero a = []
bytes_given s i (suc k) a = if_given (a % 2 ^ 32) (s i (a % 2 ^ 32)) (bytes_given s i k (a + 1))

-- the bytes of an interaction, up to the first that has trouble
abbrev pub given : {A : Type 0} → Space → Interaction A → List ℕ
given s m = gathered s (λ i a k. bytes_given s i k a) m

-- the byte that has it
abbrev pub lacking_at : Trouble → List ℕ
lacking_at (At c i va) = va ∷ []
lacking_at (Test r) = []

abbrev pub lacked : {A : Type 0} → Result A Trouble → List ℕ
lacked (Ok a) = []
lacked (Err t) = lacking_at t

-- what is asked for is what is given, and then what is lacked
one_asked : (i : Intent) (a : ℕ) (x : Result ℕ Cause) (r : Result ℕ Trouble) (rest more : List ℕ) → rest ≡ more ++ lacked r → a ∷ by_result x (λ b. rest) (λ c. []) ≡ if_given a x more ++ lacked (with_byte i a x r)
one_asked i a (Err c) r rest more e = refl
one_asked i a (Ok b) (Ok n) rest more e = ap (λ z. a ∷ z) e
one_asked i a (Ok b) (Err t) rest more e = ap (λ z. a ∷ z) e

asked_is : (s : Space) (i : Intent) (k a : ℕ) → asked s i k a ≡ bytes_given s i k a ++ lacked (number_at s i k a)
asked_is s i zero a = refl
asked_is s i (suc k) a = one_asked i (a % 2 ^ 32) (s i (a % 2 ^ 32)) (number_at s i k (a + 1)) (asked s i k (a + 1)) (bytes_given s i k (a + 1)) (asked_is s i k (a + 1))

reached_on : {A : Type 0} (s : Space) (f : ℕ → Interaction A) (r : Result ℕ Trouble) (here more : List ℕ) → here ≡ more ++ lacked r → ((v : ℕ) → reached s (f v) ≡ given s (f v) ++ lacked (outcome s (f v))) → here ++ by_result r (λ v. reached s (f v)) (λ t. []) ≡ (more ++ by_result r (λ v. given s (f v)) (λ t. [])) ++ lacked (by_result r (λ v. outcome s (f v)) Err)
reached_on s f (Ok v) here more e next = ap (λ z. z ++ reached s (f v)) (e ∙ append-nil more) ∙ ap (λ z. more ++ z) (next v) ∙ sym (append_assoc more (given s (f v)) (lacked (outcome s (f v))))
reached_on s f (Err t) here more e next = append-nil here ∙ e ∙ ap (λ z. z ++ lacking_at t) (sym (append-nil more))

reached_is : {A : Type 0} (s : Space) (m : Interaction A) → reached s m ≡ given s m ++ lacked (outcome s m)
reached_is s (Done a) = refl
reached_is s (Refuse r) = refl
reached_is s (Touch i a k f) = reached_on s f (number_at s i k a) (asked s i k a) (bytes_given s i k a) (asked_is s i k a) (λ v. reached_is s (f v))

one_less : (xs : List ℕ) (va : ℕ) → length (xs ++ (va ∷ [])) - 1 ≡ length xs
one_less xs va = let e : length (xs ++ (va ∷ [])) ≡ length xs + 1 = length-append xs (va ∷ []) in omega (arith, e)

pages_of_bytes : {A : Type 0} (xs : List ℕ) (r : Result A Trouble) → pages_touched (xs ++ lacked r) r ≡ record { found = map page_of xs; lacking = map page_of (lacked r) }
pages_of_bytes xs (Ok a) = λ j. record { found = map page_of (append-nil xs j); lacking = [] }
pages_of_bytes xs (Err (Test k)) = λ j. record { found = map page_of (append-nil xs j); lacking = [] }
pages_of_bytes xs (Err (At c i va)) =
    let front : take (length (xs ++ (va ∷ [])) - 1) (xs ++ (va ∷ [])) ≡ xs = ap (λ n. take n (xs ++ (va ∷ []))) (one_less xs va) ∙ take-append_seam xs (va ∷ []) in
    let back : drop (length (xs ++ (va ∷ [])) - 1) (xs ++ (va ∷ [])) ≡ va ∷ [] = ap (λ n. drop n (xs ++ (va ∷ []))) (one_less xs va) ∙ drop-append_seam xs (va ∷ []) in
    λ j. record { found = map page_of (front j); lacking = map page_of (back j) }

pub touched_is : {A : Type 0} (s : Space) (m : Interaction A) → pages_touched (reached s m) (outcome s m) ≡ record { found = map page_of (given s m); lacking = map page_of (lacked (outcome s m)) }
touched_is s m = ap (λ xs. pages_touched xs (outcome s m)) (reached_is s m) ∙ pages_of_bytes (given s m) (outcome s m)

bytes_alike : (s t : Space) → AreAlike s t → (i : Intent) (k a : ℕ) → bytes_given s i k a ≡ bytes_given t i k a
bytes_alike s t alike i zero a = refl
bytes_alike s t alike i (suc k) a = λ j. if_given (a % 2 ^ 32) (alike i (a % 2 ^ 32) (low a) j) (bytes_alike s t alike i k (a + 1) j)

-- an interaction asks for addresses of 32 bits alone
pub given_alike : {A : Type 0} (s t : Space) → AreAlike s t → (m : Interaction A) → given s m ≡ given t m
given_alike s t alike (Done a) = refl
given_alike s t alike (Refuse r) = refl
given_alike s t alike (Touch i a k f) = λ j. bytes_alike s t alike i k a j ++ by_result (number_alike s t alike i k a j) (λ v. given_alike s t alike (f v) j) (λ t. [])

-- a byte of a space
pub record HasByte (s : Space) (va : ℕ) : Type 0 where
  pub small : va < 2 ^ 32
  pub intent : Intent
  pub byte : ℕ
  pub is : s intent va ≡ Ok byte

-- What stops an interaction over a lower space stops it over the upper one, too.
abbrev pub StopsAt : Space → Trouble → Type 0
StopsAt t (Test r) = Unit {0}
StopsAt t (At c i va) = (d : Cause) × (t i va ≡ Err d)

abbrev pub StopsToo : {A : Type 0} → Space → Result A Trouble → Type 0
StopsToo t (Ok a) = Unit {0}
StopsToo t (Err u) = StopsAt t u

one_has : (s t : Space) (i : Intent) (a : ℕ) → a < 2 ^ 32 → (x y : Result ℕ Cause) (r : Result ℕ Trouble) (more : List ℕ) → s i a ≡ x → t i a ≡ y → StopsToo t (with_byte i a x r) → (StopsToo t r → (z : ℕ) → IsIn z more → HasByte s z) → (z : ℕ) → IsIn z (if_given a y more) → HasByte s z
one_has s t i a small x (Err c) r more real own stops next z h = absurd h
one_has s t i a small (Err c) (Ok b) r more real own stops next z h = let none : t i a ≡ Err stops.0 = stops.1 in cc
one_has s t i a small (Ok b) (Ok d) r more real own stops next z (inl e) = subst (HasByte s) (sym e) (record { small = small; intent = i; byte = b; is = real })
one_has s t i a small (Ok b) (Ok d) (Ok n) more real own stops next z (inr h) = next tt z h
one_has s t i a small (Ok b) (Ok d) (Err u) more real own stops next z (inr h) = next stops z h

bytes_have : (s t : Space) (i : Intent) (k a : ℕ) → StopsToo t (number_at s i k a) → (x : ℕ) → IsIn x (bytes_given t i k a) → HasByte s x
bytes_have s t i zero a stops x h = absurd h
bytes_have s t i (suc k) a stops x h = one_has s t i (a % 2 ^ 32) (low a) (s i (a % 2 ^ 32)) (t i (a % 2 ^ 32)) (number_at s i k (a + 1)) (bytes_given t i k (a + 1)) refl refl stops (λ more z j. bytes_have s t i k (a + 1) more z j) x h

touch_has : {A : Type 0} (s t : Space) (f : ℕ → Interaction A) (r q : Result ℕ Trouble) (here : List ℕ) → AsFar s t r q → (StopsToo t r → (x : ℕ) → IsIn x here → HasByte s x)
    → ((v : ℕ) → StopsToo t (outcome s (f v)) → (x : ℕ) → IsIn x (given t (f v)) → HasByte s x)
    → StopsToo t (by_result r (λ v. outcome s (f v)) Err) → (x : ℕ) → IsIn x here ⊎ IsIn x (by_result q (λ v. given t (f v)) (λ t. [])) → HasByte s x
touch_has s t f (Ok v) q here far now next stops x (inl h) = now tt x h
touch_has s t f (Ok v) q here far now next stops x (inr h) = next v stops x (subst (λ (z : Result ℕ Trouble). IsIn x (by_result z (λ v. given t (f v)) (λ t. []))) far h)
touch_has s t f (Err u) q here far now next stops x (inl h) = now stops x h
touch_has s t f (Err (Test k)) q here far now next stops x (inr h) = absurd (subst (λ (z : Result ℕ Trouble). IsIn x (by_result z (λ v. given t (f v)) (λ t. []))) far h)
touch_has s t f (Err (At c i a)) q here far now next stops x (inr h) = absurd (subst (λ (z : Result ℕ Trouble). IsIn x (by_result z (λ v. given t (f v)) (λ t. []))) (far.1 stops.0 stops.1) h)

-- the lower space has each byte that the upper one gives
pub given_has : {A : Type 0} (s t : Space) → Below s t → (m : Interaction A) → StopsToo t (outcome s m) → (x : ℕ) → IsIn x (given t m) → HasByte s x
given_has s t below (Done a) stops x h = absurd h
given_has s t below (Refuse r) stops x h = absurd h
given_has s t below (Touch i a k f) stops x h = touch_has s t f (number_at s i k a) (number_at t i k a) (bytes_given t i k a) (number_far s t below i k a) (λ more z j. bytes_have s t i k a more z j) (λ v more z j. given_has s t below (f v) more z j) stops x (in_either x (bytes_given t i k a) (by_result (number_at t i k a) (λ v. given t (f v)) (λ t. [])) h)

-- a byte at which the lower space stops, and which the upper one has, is given
one_stopped : (t : Space) (i j : Intent) (a va b : ℕ) (c : Cause) (x y : Result ℕ Cause) (r : Result ℕ Trouble) (more : List ℕ) → t i a ≡ y → ((v : ℕ) → x ≡ Ok v → y ≡ Ok v) → t j va ≡ Ok b → (r ≡ Err (At c j va) → IsIn va more) → with_byte i a x r ≡ Err (At c j va) → IsIn va (if_given a y more)
one_stopped t i j a va b c (Err d) (Ok n) r more own below has next e = let same : a ≡ va = cc in inl (sym same)
one_stopped t i j a va b c (Err d) (Err n) r more own below has next e = cc
one_stopped t i j a va b c (Ok v) y (Ok n) more own below has next e = cc
one_stopped t i j a va b c (Ok v) y (Err u) more own below has next e = let same : u ≡ At c j va = cc in subst (λ (z : Result ℕ Cause). IsIn va (if_given a z more)) (sym (below v refl)) (inr (next (ap Err same)))

bytes_stopped : (s t : Space) → Below s t → (i j : Intent) (k a va b : ℕ) (c : Cause) → t j va ≡ Ok b → number_at s i k a ≡ Err (At c j va) → IsIn va (bytes_given t i k a)
bytes_stopped s t below i j zero a va b c has e = cc
bytes_stopped s t below i j (suc k) a va b c has e = one_stopped t i j (a % 2 ^ 32) va b c (s i (a % 2 ^ 32)) (t i (a % 2 ^ 32)) (number_at s i k (a + 1)) (bytes_given t i k (a + 1)) refl (below i (a % 2 ^ 32)) has (λ h. bytes_stopped s t below i j k (a + 1) va b c has h) e

touch_stopped : {A : Type 0} (s t : Space) (j : Intent) (va : ℕ) (c : Cause) (f : ℕ → Interaction A) (r q : Result ℕ Trouble) (here : List ℕ) → AsFar s t r q → (r ≡ Err (At c j va) → IsIn va here) → ((v : ℕ) → outcome s (f v) ≡ Err (At c j va) → IsIn va (given t (f v))) → by_result r (λ v. outcome s (f v)) Err ≡ Err (At c j va) → IsIn va (here ++ by_result q (λ v. given t (f v)) (λ t. []))
touch_stopped s t j va c f (Ok v) q here far now next e = among_back here (by_result q (λ v. given t (f v)) (λ t. [])) va (subst (λ (z : Result ℕ Trouble). IsIn va (by_result z (λ v. given t (f v)) (λ t. []))) (sym far) (next v e))
touch_stopped s t j va c f (Err u) q here far now next e = let same : u ≡ At c j va = cc in among_front here (by_result q (λ v. given t (f v)) (λ t. [])) va (now (ap Err same))

pub stopped_given : {A : Type 0} (s t : Space) → Below s t → (m : Interaction A) (j : Intent) (va b : ℕ) (c : Cause) → t j va ≡ Ok b → outcome s m ≡ Err (At c j va) → IsIn va (given t m)
stopped_given s t below (Done a) j va b c has e = cc
stopped_given s t below (Refuse r) j va b c has e = cc
stopped_given s t below (Touch i a k f) j va b c has e = touch_stopped s t j va c f (number_at s i k a) (number_at t i k a) (bytes_given t i k a) (number_far s t below i k a) (λ h. bytes_stopped s t below i j k a va b c has h) (λ v h. stopped_given s t below (f v) j va b c has h) e
