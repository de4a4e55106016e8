-- An interaction asks for addresses of 32 bits alone.
use Rattle.std.proofs.Common.{◌≡◌, ℕ, zero, suc, ◌+◌, ◌%◌, ◌^◌, ◌<◌, ◌⊎◌, inl, inr, Bool, List, [], ◌∷◌, ◌++◌, Some, Result, Ok, Err, refl, ap, ◌∙◌, arith, if◌then◌else◌}
use Rattle.vax_arch.specs.declared.mode.Intent.{Intent}
use Rattle.vax_arch.specs.declared.mode.Intent.TheVariants as intents
use Rattle.vax_table.specs.Claims.{addresses, claims, if_write}
use Rattle.vax_table.specs.Interaction.{At, Cause, Done, Interaction, IsIn, Refuse, Space, Test, Touch, Trouble, by_result, interpreted, number_at, outcome, with_byte}
use Rattle.vax_table.specs.Tries.{first_clear, tried, tried_by}
use Rattle.vax_table.proofs.Among.{in_either}

-- two spaces that answer alike at these
abbrev pub AreAlike : Space → Space → Type 0
AreAlike s t = (i : Intent) (va : ℕ) → va < 2 ^ 32 → s i va ≡ t i va

pub low : (a : ℕ) → a % 2 ^ 32 < 2 ^ 32
low a = omega arith

pub number_alike : (s t : Space) → AreAlike s t → (i : Intent) (k a : ℕ) → number_at s i k a ≡ number_at t i k a
number_alike s t alike i zero a = refl
number_alike s t alike i (suc k) a = λ j. with_byte i (a % 2 ^ 32) (alike i (a % 2 ^ 32) (low a) j) (number_alike s t alike i k (a + 1) j)

interpreted_alike : {A B : Type 0} (s t : Space) → AreAlike s t → (done : A → B) (stops : Trouble → B) (touched : Intent → (at size : ℕ) → B → B) (m : Interaction A) →
    interpreted s done stops touched m ≡ interpreted t done stops touched m
interpreted_alike s t alike done stops touched (Done a) = refl
interpreted_alike s t alike done stops touched (Refuse r) = refl
interpreted_alike s t alike done stops touched (Touch i a k f) = λ j. touched i a k (by_result (number_alike s t alike i k a j) (λ v. interpreted_alike s t alike done stops touched (f v) j) stops)

pub outcome_alike : {A : Type 0} (s t : Space) → AreAlike s t → (m : Interaction A) → outcome s m ≡ outcome t m
outcome_alike s t alike m = interpreted_alike s t alike Ok Err (λ i a k rest. rest) m

pub claims_alike : {A : Type 0} (s t : Space) → AreAlike s t → (m : Interaction A) → claims s m ≡ claims t m
claims_alike s t alike m = interpreted_alike s t alike (λ a. []) (λ u. []) (λ i a k rest. if_write i (addresses k a) ++ rest) m

-- all of a list have 32 bits
abbrev pub AreLow : List ℕ → Type 0
AreLow xs = (x : ℕ) → IsIn x xs → x < 2 ^ 32

addresses_low : (k a : ℕ) → AreLow (addresses k a)
addresses_low zero a x h = absurd h
addresses_low (suc k) a x (inl e) = omega (arith, e)
addresses_low (suc k) a x (inr h) = addresses_low k (a + 1) x h

written_low : (i : Intent) (k a : ℕ) → AreLow (if_write i (addresses k a))
written_low intents.Read k a x h = absurd h
written_low intents.Write k a x h = addresses_low k a x h

after_low : (r : Result ℕ Trouble) (f : ℕ → List ℕ) → ((v : ℕ) → AreLow (f v)) → AreLow (by_result r f (λ t. []))
after_low (Ok v) f h x i = h v x i
after_low (Err t) f h x i = absurd i

two_low : (xs ys : List ℕ) → AreLow xs → AreLow ys → AreLow (xs ++ ys)
two_low xs ys a b x h = by (in_either x xs ys h)
  where
    by : IsIn x xs ⊎ IsIn x ys → x < 2 ^ 32
    by (inl i) = a x i
    by (inr i) = b x i

pub claims_low : {A : Type 0} (s : Space) (m : Interaction A) → AreLow (claims s m)
claims_low s (Done a) x h = absurd h
claims_low s (Refuse r) x h = absurd h
claims_low s (Touch i a k f) x h = two_low (if_write i (addresses k a)) (by_result (number_at s i k a) (λ v. claims s (f v)) (λ t. [])) (written_low i k a) (after_low (number_at s i k a) (λ v. claims s (f v)) (λ v. claims_low s (f v))) x h

-- a trouble is of such an address
abbrev pub HasLow : {A : Type 0} → Result A Trouble → Type 0
HasLow (Ok a) = Unit {0}
HasLow (Err (Test r)) = Unit {0}
HasLow (Err (At c i va)) = va < 2 ^ 32

byte_low : (i : Intent) (a : ℕ) (x : Result ℕ Cause) (r : Result ℕ Trouble) → a < 2 ^ 32 → HasLow r → HasLow (with_byte i a x r)
byte_low i a (Err c) r h k = h
byte_low i a (Ok b) (Ok n) h k = tt
byte_low i a (Ok b) (Err (Test r)) h k = tt
byte_low i a (Ok b) (Err (At c j va)) h k = k

number_low : (s : Space) (i : Intent) (k a : ℕ) → HasLow (number_at s i k a)
number_low s i zero a = tt
number_low s i (suc k) a = byte_low i (a % 2 ^ 32) (s i (a % 2 ^ 32)) (number_at s i k (a + 1)) (low a) (number_low s i k (a + 1))

bind_low : {A : Type 0} (r : Result ℕ Trouble) (f : ℕ → Result A Trouble) → HasLow r → ((v : ℕ) → HasLow (f v)) → HasLow (by_result r f Err)
bind_low (Ok v) f h k = k v
bind_low (Err (Test r)) f h k = tt
bind_low (Err (At c i va)) f h k = h

pub outcome_low : {A : Type 0} (s : Space) (m : Interaction A) → HasLow (outcome s m)
outcome_low s (Done a) = tt
outcome_low s (Refuse r) = tt
outcome_low s (Touch i a k f) = bind_low (number_at s i k a) (λ v. outcome s (f v)) (number_low s i k a) (λ v. outcome_low s (f v))

-- two tests that agree there
clear_alike : (c d : ℕ → Bool) → ((va : ℕ) → va < 2 ^ 32 → c va ≡ d va) → (vas : List ℕ) → AreLow vas → first_clear c vas ≡ first_clear d vas
clear_alike c d alike [] h = refl
clear_alike c d alike (va ∷ vas) h = λ j. if alike va (h va (inl refl)) j then Some va else clear_alike c d alike vas (λ x i. h x (inr i)) j

by_alike : {A : Type 0} (c d : ℕ → Bool) (vas : List ℕ) (r : Result A Trouble) → first_clear c vas ≡ first_clear d vas → tried_by c vas r ≡ tried_by d vas r
by_alike c d vas (Ok a) e = ap (Rattle.vax_table.specs.Tries.unless_clear a) e
by_alike c d vas (Err t) e = refl

pub tried_alike : {A : Type 0} (s t : Space) (c d : ℕ → Bool) → AreAlike s t → ((va : ℕ) → va < 2 ^ 32 → c va ≡ d va) → (m : Interaction A) → tried s c m ≡ tried t d m
tried_alike s t c d alike same m =
    by_alike c d (claims s m) (outcome s m) (clear_alike c d same (claims s m) (claims_low s m))
    ∙ (λ j. tried_by d (claims_alike s t alike m j) (outcome_alike s t alike m j))

-- a space and a test at 32 bits of an address alone
abbrev pub narrow : Space → Space
narrow s i va = s i (va % 2 ^ 32)

abbrev pub narrowly : (ℕ → Bool) → ℕ → Bool
narrowly c va = c (va % 2 ^ 32)

narrow_alike : (s : Space) → AreAlike s (narrow s)
narrow_alike s i va h = ap (s i) (same va h)
  where
    same : (va : ℕ) → va < 2 ^ 32 → va ≡ va % 2 ^ 32
    same va h = omega arith

pub outcome_narrow : {A : Type 0} (s : Space) (m : Interaction A) → outcome s m ≡ outcome (narrow s) m
outcome_narrow s m = outcome_alike s (narrow s) (narrow_alike s) m

pub claims_narrow : {A : Type 0} (s : Space) (m : Interaction A) → claims s m ≡ claims (narrow s) m
claims_narrow s m = claims_alike s (narrow s) (narrow_alike s) m

pub tried_narrow : {A : Type 0} (s : Space) (c : ℕ → Bool) (m : Interaction A) → tried s c m ≡ tried (narrow s) (narrowly c) m
tried_narrow s c m = tried_alike s (narrow s) c (narrowly c) (λ i va h. ap (s i) (same va h)) (λ va h. ap c (same va h)) m
  where
    same : (va : ℕ) → va < 2 ^ 32 → va ≡ va % 2 ^ 32
    same va h = omega arith
