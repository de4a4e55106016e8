use Rattle.std.proofs.Common.{◌<◌, length, arith, ◌∙◌}
use Rattle.sys_devices.proofs.Reading.{got, next_read, written}
use Rattle.sys_store.specs.Blocks.{blocks_of}
use Rattle.sys_devices.proofs.loading.read_blocks.Goals as goal

pub loop-block-preserved : goal.loop-block-preserved
loop-block-preserved g c =
    let block = c.loop-block.block in
    let bytes = c.get_from.new.into in
    let before = c.loop-block.invariant in
    let one = got c.args.k block _ _ _ c.loop-block.bytes bytes c.in_ok-get_from.field-0 before.drives c.in_ok-get_from.ensures.gets in
    let within : block < length (blocks_of c.loop-block.volumes c.args.v) = omega (arith, c.loop-block-test.true, before.read.size, c.blocks_on-count.ensures.size) in
    record {
      drives = one.0;
      read = next_read block c.args.volumes.now c.loop-block.volumes c.write_block.new.self c.args.v _ bytes c.requires.volume (omega (arith, c.loop-block-test.true, c.blocks_on-count.ensures.size)) c.blocks_on-count.ensures.sized before.read one.1
          (written c.loop-block.volumes c.write_block.new.self c.args.v block bytes c.write_block.result within c.write_block.ensures.ok c.write_block.ensures.err);
      len = c.get_from.ensures.len ∙ before.len;
    }
