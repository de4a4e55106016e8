use Rattle.std.specs.Option.{option_copied}
use Rattle.std.proofs.Common.{◌≡◌, drop}
use Rattle.arrayvec.specs.ArrayVec.{array_vec_len}
use Rattle.vasm_text.specs.Operands.{operands_in}
use Rattle.vasm.specs.Views.{operands_view}
use Rattle.vasm.proofs.Later.{later}
use Rattle.vasm.proofs.parse_statement.operands_in.Given as goal

abbrev pub invariant-loop-form : goal.invariant-loop-form
invariant-loop-form l = record {
  count : array_vec_len l.operands ≡ l.form-index;
  rest : later (operands_view l.operands) (operands_in (drop l.form-index l.forms) (option_copied l.rest)) ≡ operands_in l.fn.forms (option_copied l.fn.text);
}
