use Rattle.std.proofs.Common.{◌<◌, length, arith, ◌∙◌}
use Rattle.std.proofs.lemmas.Result.{err_from_is_err_and}
use Rattle.sys_devices.proofs.Writing.{cut_here, inside, next_stored, was_read}
use Rattle.sys_store.specs.Blocks.{blocks_of}
use Rattle.sys_devices.proofs.storing.store_blocks.Goals as goal

pub returns-in_err-set_on-clause-stores : goal.returns-in_err-set_on-clause-stores
returns-in_err-set_on-clause-stores g c =
    let block = c.loop-block.block in
    let blocks = blocks_of c.args.volumes.now c.args.v in
    let long = c.requires.size in
    let within : block < length blocks = omega (arith, c.loop-block-test.true, long, c.blocks_on-count.ensures.size) in
    let p = err_from_is_err_and c.from_residual.result c.from_residual.ensures.1 in
    rw p.1 (cut_here block c.args.k _ _ _ blocks c.read_block.new.into _ (record { there = inside _ _ _ (omega arith); within = within; long = long; sized = c.blocks_on-count.ensures.sized; before = c.loop-block.invariant.stored; sets = c.in_err-set_on.ensures.sets }))

pub loop-block-preserved : goal.loop-block-preserved
loop-block-preserved g c =
    let block = c.loop-block.block in
    let blocks = blocks_of c.args.volumes.now c.args.v in
    let long = c.requires.size in
    let within : block < length blocks = omega (arith, c.loop-block-test.true, long, c.blocks_on-count.ensures.size) in
    record {
      stored = next_stored block c.args.k _ _ _ blocks c.read_block.new.into c.in_ok-set_on.field-0 (record { there = inside _ _ _ (omega arith); within = within; long = long; sized = c.blocks_on-count.ensures.sized; before = c.loop-block.invariant.stored; sets = c.in_ok-set_on.ensures.sets })
          (was_read c.args.volumes.now c.args.v block c.loop-block.bytes c.read_block.new.into c.read_block.result within c.read_block.ensures.ok c.read_block.ensures.err);
      len = c.set_on.ensures.len ∙ c.loop-block.invariant.len;
    }
