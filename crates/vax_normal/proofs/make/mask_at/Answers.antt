use Rattle.std.proofs.Common.{◌<◌, arith}
use Rattle.std.proofs.lemmas.Nat.{one_shl}
use Rattle.vax_normal.proofs.make.mask_at.Goals as goal

pub returns-clause-value : goal.returns-clause-value
returns-clause-value c =
    let k = c.args.position in
    let few : k < 32 = omega arith in
    omega (arith, one_shl k 32 few)
