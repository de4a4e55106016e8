use Rattle.std.specs.Str.Lines.{lines}
use Rattle.std.proofs.Common.{◌≡◌, ◌+◌, ◌*◌, ◌≤◌, List, [], Ok, length}
use Rattle.vasm_text.specs.Statements.{SourceLine}
use Rattle.vasm_text.specs.Asm.{read_from}
use Rattle.vasm.specs.Labels.{label_address}
use Rattle.vasm.proofs.WrittenLines.{IsWriting}
use Rattle.vasm.proofs.text.bytes_of.Given as goal

abbrev pub invariant-loop-rest : goal.invariant-loop-rest
invariant-loop-rest l = record {
  made : (program : List SourceLine) → read_from 1 [] (lines l.fn.text) ≡ Ok program → IsWriting (label_address l.labels) program l.number l.at l.bytes.items l.rest;
  count : l.number + length l.rest ≤ length l.fn.text + 1;
  low : l.at ≤ 448 + 64 * l.number;
}

abbrev pub decreases-loop-rest : goal.decreases-loop-rest
decreases-loop-rest l = length l.rest
