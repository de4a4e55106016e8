use Rattle.std.proofs.Common.{◌≡◌, ◌≤◌, ◌++◌, ◌*◌, length, drop}
use Rattle.sys_devices.specs.Pieces.{begun_after, echo_bytes}
use Rattle.sys_devices.proofs.piece.render.Given as goal

-- the text so far, followed by what is shown of the bytes that are left, is what is shown of all
abbrev pub invariant-loop-byte : goal.invariant-loop-byte
invariant-loop-byte l = record {
  piece : l.piece ++ echo_bytes l.name l.is_begun (drop l.byte-index l.bytes) ≡ echo_bytes l.name l.fn.is_begun l.bytes;
  begun : begun_after l.is_begun (drop l.byte-index l.bytes) ≡ begun_after l.fn.is_begun l.bytes;
  short : length l.piece ≤ 11 * l.byte-index;
}
