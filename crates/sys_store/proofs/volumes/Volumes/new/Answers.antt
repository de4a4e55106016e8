use Rattle.std.proofs.Common.{◌∙◌, ap, length, map}
use Rattle.std.proofs.lemmas.List.{take_all}
use Rattle.sys_store.proofs.Zero.{sizes_of_zero}
use Rattle.sys_store.specs.Blocks.{zero_volume}
use Rattle.sys_store.proofs.volumes.Volumes.new.Goals as goal

pub returns-clause-sizes : goal.returns-clause-sizes
returns-clause-sizes c =
    let all = take_all c.loop-size.size-index c.args.sizes.now c.loop-size-test.false in
    ap (map length) (c.loop-size.invariant ∙ ap (map zero_volume) all) ∙ sizes_of_zero c.args.sizes.now
