-- Numbers that are read byte by byte.
use Rattle.std.proofs.Common.{◌≡◌, ℕ, zero, suc, ◌-◌, ◌*◌, ◌^◌, ◌<◌, ◌≤◌, arith, lit<}
use Rattle.std.proofs.Math.Nat.{pow-le-pow_right, pow-suc}
use Rattle.vax_table.proofs.Numbers.{number_step}

-- a power by its exponent less 1
pub pow_step : (k : ℕ) → 0 < k → 256 ^ k ≡ 256 * 256 ^ (k - 1)
pow_step zero h = absurd (omega arith)
pow_step (suc k) h = let less : suc k - 1 ≡ k = omega arith in rw (less, pow-suc 256 k) (omega arith)

pub seven_bytes : (n k : ℕ) → n < 256 ^ (k - 1) → k ≤ 8 → n < 2 ^ 56
seven_bytes n k h l =
    let base : 0 < 256 = lit< tt in
    let few : k - 1 ≤ 7 = omega arith in
    let most : 256 ^ (k - 1) ≤ 256 ^ 7 = pow-le-pow_right base few in
    omega arith

pub ruleset byte_by_byte = (number_step, pow_step)
