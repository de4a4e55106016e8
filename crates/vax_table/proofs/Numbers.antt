-- Numbers read from a space, for those who read them byte by byte.
use Rattle.std.proofs.Common.{◌≡◌, ℕ, zero, suc, ◌+◌, ◌-◌, ◌%◌, ◌^◌, ◌<◌, Result, Ok, Err, refl, ap, arith}
use Rattle.vax_arch.specs.declared.mode.Intent.{Intent}
use Rattle.vax_table.specs.Interaction.{Cause, Trouble, Test, Space, with_byte, number_at}
use Rattle.vax_table.specs.declared.act.Refusal.{Refusal}

-- an address counts modulo 2 ^ 32
pub number_wraps : (s : Space) (i : Intent) (k a b : ℕ) → a % 2 ^ 32 ≡ b % 2 ^ 32 → number_at s i k a ≡ number_at s i k b
number_wraps s i zero a b e = refl
number_wraps s i (suc k) a b e =
    let next : (a + 1) % 2 ^ 32 ≡ (b + 1) % 2 ^ 32 = omega arith in
    let rest : number_at s i k (a + 1) ≡ number_at s i k (b + 1) = number_wraps s i k (a + 1) (b + 1) next in
    rw (e, rest) refl

-- one byte, and the rest
pub number_step : (s : Space) (i : Intent) (k a : ℕ) → 0 < k → number_at s i k a ≡ with_byte i (a % 2 ^ 32) (s i (a % 2 ^ 32)) (number_at s i (k - 1) ((a + 1) % 2 ^ 32))
number_step s i zero a h = absurd (omega arith)
number_step s i (suc k) a h =
    let wraps : (a + 1) % 2 ^ 32 ≡ (a + 1) % 2 ^ 32 % 2 ^ 32 = omega arith in
    let less : suc k - 1 ≡ k = omega arith in
    let rest : number_at s i k (a + 1) ≡ number_at s i k ((a + 1) % 2 ^ 32) = number_wraps s i k (a + 1) ((a + 1) % 2 ^ 32) wraps in
    rw (less, rest) refl

byte_never : (i : Intent) (a : ℕ) (x : Result ℕ Cause) (r : Result ℕ Trouble) (t : Refusal) → (r ≡ Err (Test t) → ⊥) → with_byte i a x r ≡ Err (Test t) → ⊥
byte_never i a (Err c) r t n e = cc
byte_never i a (Ok b) (Err u) t n e = let same : u ≡ Test t = cc in n (ap Err same)
byte_never i a (Ok b) (Ok m) t n e = cc

-- a reference is never refused by a test
pub number_never : (s : Space) (i : Intent) (k a : ℕ) (t : Refusal) → number_at s i k a ≡ Err (Test t) → ⊥
number_never s i zero a t e = cc
number_never s i (suc k) a t e = byte_never i (a % 2 ^ 32) (s i (a % 2 ^ 32)) (number_at s i k (a + 1)) t (number_never s i k (a + 1) t) e
