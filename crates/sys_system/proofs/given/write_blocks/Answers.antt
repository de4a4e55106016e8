use Rattle.std.proofs.Common.{◌<◌, length, arith}
use Rattle.sys_devices.proofs.Reading.{written}
use Rattle.sys_store.specs.Blocks.{blocks_of}
use Rattle.sys_system.proofs.Copying.{all_written, next_written}
use Rattle.sys_system.proofs.given.write_blocks.Goals as goal

pub loop-block-preserved : goal.loop-block-preserved
loop-block-preserved c =
    let block = c.loop-block.block in
    let before = c.loop-block.invariant in
    let within : block < length (blocks_of c.loop-block.volumes c.args.v) = omega (arith, c.loop-block-test.true, before.size) in
    next_written block c.args.volumes.now c.loop-block.volumes c.write_block.new.self c.args.v c.args.blocks.now c.requires.volume c.loop-block-test.true before
    (written c.loop-block.volumes c.write_block.new.self c.args.v block _ c.write_block.result within c.write_block.ensures.ok c.write_block.ensures.err)

pub returns : goal.returns
returns c = all_written c.loop-block.block c.args.volumes.now c.loop-block.volumes c.args.v c.args.blocks.now (omega arith) c.loop-block.invariant
