-- Sixteen digits of base 16 fit in 64 bits.
use Rattle.std.proofs.Common.{◌≡◌, ℕ, zero, suc, ◌+◌, ◌-◌, ◌^◌, ◌<◌, ◌≤◌, subst, arith}
use Rattle.std.proofs.Math.Nat.{pow-suc}

more : (i k : ℕ) → 16 ^ i ≤ 16 ^ (k + i)
more i zero = let e : zero + i ≡ i = omega arith in subst (λ n. 16 ^ i ≤ 16 ^ n) (let f : i ≡ zero + i = omega arith in f) (omega arith)
more i (suc k) =
    let h : 16 ^ i ≤ 16 ^ (k + i) = more i k in
    let f : suc (k + i) ≡ suc k + i = omega arith in
    subst (λ n. 16 ^ i ≤ 16 ^ n) f (omega (arith, pow-suc 16 (k + i)))

pub digits_fit : (v i : ℕ) → i < 16 → v < 16 ^ i → v < 16 ^ 15
digits_fit v i low small =
    let h : 16 ^ i ≤ 16 ^ ((15 - i) + i) = more i (15 - i) in
    let e : (15 - i) + i ≡ 15 = omega arith in
    let g : 16 ^ i ≤ 16 ^ 15 = subst (λ n. 16 ^ i ≤ 16 ^ n) e h in
    omega arith
