use Rattle.std.proofs.Common.{◌≡◌, drop, length, take}
use Rattle.std.specs.Prelude.{All}
use Rattle.sys_devices.proofs.Puts.{IsBut}
use Rattle.sys_store.specs.Blocks.{blocks_of}
use Rattle.sys_output.specs.Parts.{volume_bytes}
use Rattle.sys_output.proofs.blocks.put_blocks.Given as goal

-- all is shown but for the blocks that are left; the others have 512 bytes
abbrev pub invariant-loop-block : goal.invariant-loop-block
invariant-loop-block g l =
    let blocks = blocks_of l.volumes l.v in
    record {
      shown : IsBut (g.O.Sink.printed l.fn.out) (g.O.Sink.printed l.out) (volume_bytes (drop l.block blocks)) (volume_bytes blocks);
      long : All (λ b. length b ≡ 512) (take l.block blocks);
    }
