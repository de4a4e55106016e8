use Rattle.std.proofs.Common.{◌≡◌, take}
use Rattle.sys_purge.proofs.contents.copied_blocks.Given as goal

abbrev pub invariant-loop-block : goal.invariant-loop-block
invariant-loop-block l = l.copy.items ≡ take l.block-index l.blocks
