use Rattle.std.specs.List.{flat_map}
use Rattle.std.proofs.Common.{◌≡◌, ◌++◌, take}
use Rattle.vv_base.specs.Digits.{hex_text}
use Rattle.vasm.proofs.listing.put_digits.Given as goal

abbrev pub invariant-loop-byte : goal.invariant-loop-byte
invariant-loop-byte l = l.shown.items ≡ l.fn.shown.items ++ flat_map (hex_text 2) (take l.byte-index l.bytes)
