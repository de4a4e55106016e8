use Rattle.std.proofs.Common.{◌<◌, arith}
use Rattle.vax_kept.proofs.fetching.has_at.Goals as goal

pub has_short-requires-clause-short : goal.has_short-requires-clause-short
has_short-requires-clause-short c = let some : 0 < c.args.kept.now.near_end = omega (arith, c.requires.inside) in c.args.kept.now.near_short some

pub has_short-requires-clause-inside : goal.has_short-requires-clause-inside
has_short-requires-clause-inside c =
    let some : 0 < c.args.kept.now.near_end = omega (arith, c.requires.inside) in
    omega (arith, c.requires.inside, c.args.kept.now.near_whole some)
