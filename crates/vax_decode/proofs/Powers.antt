-- Bounds of a number by its bytes.
use Rattle.std.proofs.Common.{ℕ, suc, ◌+◌, ◌*◌, ◌^◌, ◌<◌, ◌≤◌, arith, lit<}
use Rattle.std.proofs.Math.Nat.{pow-le-pow_right, pow-suc}

pub seven_bytes : (n k : ℕ) → n < 256 ^ k → k ≤ 7 → n < 2 ^ 56
seven_bytes n k h l =
    let base : 0 < 256 = lit< tt in
    let most : 256 ^ k ≤ 256 ^ 7 = pow-le-pow_right base l in
    omega arith

pub byte_more : (x m k : ℕ) → x < 256 → m < 256 ^ k → x + 256 * m < 256 ^ suc k
byte_more x m k h l = omega (arith, pow-suc 256 k)

pub ruleset powers = (seven_bytes, byte_more)
