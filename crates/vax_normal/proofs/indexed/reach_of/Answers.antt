use Rattle.std.proofs.Common.{refl, arith}
use Rattle.vax_normal.specs.declared.rarer_shape.IndexedReach.{IndexedReach}
use Rattle.vax_normal.proofs.Indexing.{is_indexed_reach}
use Rattle.vax_normal.proofs.indexed.reach_of.Goals as goal

pub returns : goal.returns
returns c =
    let s = c.args.spec.now in
    let p : IndexedReach =
    record { base = s.reg; index = c.in_ok-index.index; width = c.args.width; offset = c.in_ok-offset.offset; there = omega (arith, c.if-spec-ge15.false); indexed = omega (arith, c.if-index-ge15.false) } in
    is_indexed_reach p c.args.base c.args.width s refl refl c.in_ok-index.was c.in_ok-offset.ensures
