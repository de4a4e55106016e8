use Rattle.std.proofs.Common.{◌≡◌, ◌-◌, [], slice_index_or}
use Rattle.std.specs.Str.Lines.{lines}
use Rattle.vv_edge.proofs.learning.line_of_text.Given as goal

abbrev pub invariant-loop-number : goal.invariant-loop-number
invariant-loop-number l = slice_index_or (lines l.text) (l.line - 1) [] ≡ slice_index_or (lines l.rest) (l.line - l.number) []
