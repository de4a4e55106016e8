use Rattle.sys_devices.proofs.Reading.{IsReadTo}
use Rattle.sys_system.proofs.Copying.{told}
use Rattle.sys_system.proofs.given.write_blocks.Given as goal

abbrev pub invariant-loop-block : goal.invariant-loop-block
invariant-loop-block l = IsReadTo l.block l.fn.volumes l.volumes l.v (told l.blocks)
