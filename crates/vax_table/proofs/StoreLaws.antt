-- Laws of stores made in a memory.
use Rattle.std.proofs.Common.{◌≡◌, ℕ, zero, suc, ◌+◌, ◌-◌, ◌/◌, ◌%◌, ◌^◌, ◌<◌, List, slice_set, refl, arith}
use Rattle.vax_table.specs.Stores.{bytes_stored}

-- an address counts modulo 2 ^ 32
same_from : (place : ℕ → ℕ) (k a b v : ℕ) (memory : List ℕ) → a % 2 ^ 32 ≡ b % 2 ^ 32 → bytes_stored place k a v memory ≡ bytes_stored place k b v memory
same_from place zero a b v memory e = refl
same_from place (suc k) a b v memory e =
    let next : (a + 1) % 2 ^ 32 ≡ (b + 1) % 2 ^ 32 = omega arith in
    rw e (same_from place k (a + 1) (b + 1) (v / 256) (slice_set memory (place (b % 2 ^ 32)) (v % 256)) next)

bytes_wrap : (place : ℕ → ℕ) (k a v : ℕ) (memory : List ℕ) → bytes_stored place k (a % 2 ^ 32) v memory ≡ bytes_stored place k a v memory
bytes_wrap place k a v memory = let same : a % 2 ^ 32 % 2 ^ 32 ≡ a % 2 ^ 32 = omega arith in same_from place k (a % 2 ^ 32) a v memory same

-- one byte more
pub bytes_step : (place : ℕ → ℕ) (k a v : ℕ) (memory : List ℕ) → 0 < k → a < 2 ^ 32 → bytes_stored place (k - 1) ((a + 1) % 2 ^ 32) (v / 256) (slice_set memory (place a) (v % 256)) ≡ bytes_stored place k a v memory
bytes_step place zero a v memory h small = absurd (omega arith)
bytes_step place (suc k) a v memory h small =
    let less : suc k - 1 ≡ k = omega arith in
    let same : a % 2 ^ 32 ≡ a = omega arith in
    rw (less, same) (bytes_wrap place k (a + 1) (v / 256) (slice_set memory (place a) (v % 256)))
