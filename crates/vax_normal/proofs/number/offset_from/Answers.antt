use Rattle.std.proofs.Common.{◌≡◌, ◌<◌, arith, slice_index}
use Rattle.std.proofs.lemmas.Nat.{and_mask}
use Rattle.vax_normal.proofs.number.offset_from.Goals as goal

pub returns : goal.returns
returns c = λ r q alike.
    let n = c.args.register in
    let low : n < 15 = omega arith in
    let same : slice_index q n ≡ slice_index r n = alike n low in
    omega (arith, same, and_mask (slice_index r n) 32)
