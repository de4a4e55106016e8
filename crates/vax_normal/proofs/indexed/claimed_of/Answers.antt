use Rattle.std.proofs.Common.{refl}
use Rattle.vax_normal.specs.declared.shape.Reach.{Reach}
use Rattle.vax_normal.proofs.Indexing.{claims_like}
use Rattle.vax_normal.proofs.indexed.claimed_of.Goals as goal

pub returns-in-Write : goal.returns-in-Write
returns-in-Write c =
    let p = c.args.reach.now in
    let alone : Reach = record { register = p.base; offset = 0; step = 0; width = p.width; there = p.there } in
    claims_like c.args.intent alone c.in-Write.is refl
