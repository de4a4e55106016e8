use Rattle.std.proofs.Common.{◌<◌, ◌^◌, arith, length-drop, ℕ}
use Rattle.vax_decode.proofs.Powers.{seven_bytes}
use Rattle.vax_decode.proofs.read.+number.Goals as goal

pub overflow_mul-result : goal.overflow_mul-result
overflow_mul-result t c =
    let h : c.number.result < 2 ^ 56 = seven_bytes _ _ c.number.ensures.bound (omega (arith, length-drop {A = ℕ})) in omega arith

pub overflow_add-result : goal.overflow_add-result
overflow_add-result t c =
    let h : c.number.result < 2 ^ 56 = seven_bytes _ _ c.number.ensures.bound (omega (arith, length-drop {A = ℕ})) in omega arith
