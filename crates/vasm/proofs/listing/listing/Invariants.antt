use Rattle.std.specs.Str.Lines.{lines}
use Rattle.std.proofs.Common.{◌≡◌, ◌+◌, ◌*◌, ◌≤◌, ◌++◌, length}
use Rattle.vasm.specs.Listing.{listed_lines, listed_names}
use Rattle.vasm.proofs.listing.listing.Given as goal

abbrev pub invariant-loop-left : goal.invariant-loop-left
invariant-loop-left l = record {
  listed : l.shown.items ++ listed_lines l.at l.left (lines l.rest) ≡ listed_lines 0x200 l.fn.bytes (lines l.fn.text);
  named : l.names.items ++ listed_names l.at (lines l.rest) ≡ listed_names 0x200 (lines l.fn.text);
  low : l.at + 64 * length l.rest ≤ 0x200 + 64 * length l.fn.text;
}

abbrev pub decreases-loop-left : goal.decreases-loop-left
decreases-loop-left l = length l.rest
