use Rattle.std.proofs.Common.{◌≡◌, drop, length, take}
use Rattle.std.specs.Prelude.{All, flat_map}
use Rattle.sys_devices.proofs.Puts.{IsBut}
use Rattle.sys_output.specs.Parts.{volume_bytes}
use Rattle.sys_output.proofs.blocks.put_volumes.Given as goal

-- all is shown but for the volumes that are left; the others' blocks have 512 bytes
abbrev pub invariant-loop-place : goal.invariant-loop-place
invariant-loop-place g l = record {
  shown : IsBut (g.O.Sink.printed l.fn.out) (g.O.Sink.printed l.out) (flat_map volume_bytes (drop l.place l.volumes)) (flat_map volume_bytes l.volumes);
  long : All (λ blocks. All (λ b. length b ≡ 512) blocks) (take l.place l.volumes);
}
