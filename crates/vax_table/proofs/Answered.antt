-- Where an interaction completes, the space has every byte that the interaction claims.
use Rattle.std.proofs.Common.{◌≡◌, ℕ, zero, suc, ◌+◌, ◌%◌, ◌^◌, ◌⊎◌, inl, inr, List, [], Result, Ok, Err, refl, sym, subst}
use Rattle.vax_arch.specs.declared.mode.Intent.{Intent}
use Rattle.vax_arch.specs.declared.mode.Intent.TheVariants as intents
use Rattle.vax_table.specs.Claims.{addresses, claims, if_write}
use Rattle.vax_table.specs.Interaction.{Cause, Interaction, Done, Refuse, Touch, Space, Trouble, IsIn, by_result, number_at, outcome, with_byte}
use Rattle.vax_table.proofs.Among.{in_either}

abbrev pub Answered : Space → ℕ → Type 0
Answered s va = (b : ℕ) × (s intents.Write va ≡ Ok b)

-- a number has its first byte and the number of the others
pub made_of : (i : Intent) (a n : ℕ) (x : Result ℕ Cause) (r : Result ℕ Trouble) → with_byte i a x r ≡ Ok n → ((b : ℕ) × (x ≡ Ok b)) × ((v : ℕ) × (r ≡ Ok v))
made_of i a n (Err c) r e = absurd (cc)
made_of i a n (Ok b) (Err t) e = absurd (cc)
made_of i a n (Ok b) (Ok v) e = ((b, refl), (v, refl))

number_answered : (s : Space) (k a n : ℕ) → number_at s intents.Write k a ≡ Ok n → (va : ℕ) → IsIn va (addresses k a) → Answered s va
number_answered s zero a n e va h = absurd h
number_answered s (suc k) a n e va (inl g) = subst (Answered s) (sym g) (made_of intents.Write (a % 2 ^ 32) n (s intents.Write (a % 2 ^ 32)) (number_at s intents.Write k (a + 1)) e).0
number_answered s (suc k) a n e va (inr h) =
    let made = made_of intents.Write (a % 2 ^ 32) n (s intents.Write (a % 2 ^ 32)) (number_at s intents.Write k (a + 1)) e in
    number_answered s k (a + 1) made.1.0 made.1.1 va h

written_answered : (s : Space) (i : Intent) (k a n : ℕ) → number_at s i k a ≡ Ok n → (va : ℕ) → IsIn va (if_write i (addresses k a)) → Answered s va
written_answered s intents.Read k a n e va h = absurd h
written_answered s intents.Write k a n e va h = number_answered s k a n e va h

touch_answered : {A : Type 0} (s : Space) (i : Intent) (k a : ℕ) (f : ℕ → Interaction A) (x : A) (r : Result ℕ Trouble) → number_at s i k a ≡ r → ((v : ℕ) → outcome s (f v) ≡ Ok x → (va : ℕ) → IsIn va (claims s (f v)) → Answered s va) →
    by_result r (λ v. outcome s (f v)) Err ≡ Ok x → (va : ℕ) → IsIn va (if_write i (addresses k a)) ⊎ IsIn va (by_result r (λ v. claims s (f v)) (λ t. [])) → Answered s va
touch_answered s i k a f x (Ok n) is next e va (inl h) = written_answered s i k a n is va h
touch_answered s i k a f x (Ok n) is next e va (inr h) = next n e va h
touch_answered s i k a f x (Err t) is next e va h = absurd (cc)

pub claims_answered : {A : Type 0} (s : Space) (m : Interaction A) (x : A) → outcome s m ≡ Ok x → (va : ℕ) → IsIn va (claims s m) → Answered s va
claims_answered s (Done a) x e va h = absurd h
claims_answered s (Refuse r) x e va h = absurd h
claims_answered s (Touch i a k f) x e va h =
    touch_answered s i k a f x (number_at s i k a) refl (λ v g. claims_answered s (f v) x g) e va (in_either va (if_write i (addresses k a)) (by_result (number_at s i k a) (λ v. claims s (f v)) (λ t. [])) h)
