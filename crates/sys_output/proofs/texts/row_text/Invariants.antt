use Rattle.std.proofs.Common.{◌≡◌, ◌+◌, ◌*◌, ◌++◌, drop, length}
use Rattle.sys_state.specs.Dump.{byte_texts, row_line}
use Rattle.sys_output.proofs.texts.row_text.Given as goal

-- all is there but for the bytes that are left
abbrev pub invariant-loop-b : goal.invariant-loop-b
invariant-loop-b l = record { text : l.text ++ byte_texts (drop l.b-index l.row) ≡ row_line l.at l.row; room : length l.text ≡ 8 + 3 * l.b-index }
