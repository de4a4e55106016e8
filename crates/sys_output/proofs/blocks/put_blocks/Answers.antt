use Rattle.std.proofs.Common.{◌≡◌, ◌<◌, ℕ, List, arith, length, subst}
use Rattle.std.proofs.lemmas.List.Elements.{All-more}
use Rattle.sys_devices.proofs.Puts.{goes_on, hands_on, stops}
use Rattle.sys_store.specs.Blocks.{blocks_of}
use Rattle.sys_output.proofs.Flat.{flat_next, holds_of_all}
use Rattle.sys_output.proofs.Reading.{is_read}
use Rattle.sys_output.proofs.blocks.put_blocks.Goals as goal

pub returns-in_err-put-clause-shown : goal.returns-in_err-put-clause-shown
returns-in_err-put-clause-shown g c =
    let blocks = blocks_of c.args.volumes.now c.args.v in
    let bytes = c.read_block.new.into in
    let inside : c.loop-block.block < length blocks = omega (arith, c.requires.count, c.loop-block-test.true) in
    let is = is_read c.args.volumes.now c.args.v c.loop-block.block bytes _ c.read_block.result inside c.read_block.ensures.ok c.read_block.ensures.err in
    stops _ _ _ _ _ _ _ _ (hands_on _ c.from_residual.result c.from_residual.ensures.1) (flat_next (λ (b : List ℕ). b) blocks c.loop-block.block bytes bytes inside is) c.loop-block.invariant.shown c.in_err-put.ensures

pub loop-block-preserved : goal.loop-block-preserved
loop-block-preserved g c =
    let blocks = blocks_of c.args.volumes.now c.args.v in
    let bytes = c.read_block.new.into in
    let inside : c.loop-block.block < length blocks = omega (arith, c.requires.count, c.loop-block-test.true) in
    let long : length bytes ≡ 512 = omega arith in
    let is = is_read c.args.volumes.now c.args.v c.loop-block.block bytes _ c.read_block.result inside c.read_block.ensures.ok c.read_block.ensures.err in
    record {
      shown = goes_on _ _ _ _ _ _ _ (flat_next (λ (b : List ℕ). b) blocks c.loop-block.block bytes bytes inside is) c.loop-block.invariant.shown c.in_ok-put.ensures;
      long = All-more (λ (b : List ℕ). length b ≡ 512) blocks c.loop-block.block bytes inside c.loop-block.invariant.long (subst (λ (b : List ℕ). length b ≡ 512) is long);
    }

pub returns-clause-long : goal.returns-clause-long
returns-clause-long g c =
    let blocks = blocks_of c.args.volumes.now c.args.v in
    holds_of_all (λ (b : List ℕ). length b ≡ 512) blocks c.loop-block.block (omega (arith, c.requires.count, c.loop-block-test.false)) c.loop-block.invariant.long
