use Rattle.std.proofs.Common.{◌≡◌}
use Rattle.sys_store.specs.Blocks.{zero_volume}
use Rattle.vv_gen.proofs.volumes.zero_blocks.Given as goal

abbrev pub invariant-loop : goal.invariant-loop
invariant-loop l = l.blocks.items ≡ zero_volume l.counter
