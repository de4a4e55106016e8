use Rattle.std.proofs.Common.{◌≡◌, ◌+◌, ◌*◌, ◌++◌, length, take}
use Rattle.std.specs.Prelude.{codes, flat_map}
use Rattle.vv_base.specs.Digits.{hex_text}
use Rattle.sys_trace.proofs.words.put_shown.Given as goal

abbrev pub invariant-loop-byte : goal.invariant-loop-byte
invariant-loop-byte l = (l.line ≡ l.fn.line ++ (codes " OUT=" ++ flat_map (hex_text 2) (take l.byte-index l.shown))) × (length l.line ≡ length l.fn.line + 5 + 2 * l.byte-index)
