use Rattle.std.proofs.Common.{◌≡◌, drop, ◌++◌}
use Rattle.arrayvec.specs.ArrayVec.{array_vec_len}
use Rattle.vax_table.specs.Reading.{Got, operands_at, then_read}
use Rattle.vax_decode.proofs.scan.operands.Given as goal

abbrev pub invariant-loop-form : goal.invariant-loop-form
invariant-loop-form l = record {
  count : array_vec_len l.specs ≡ l.form-index;
  rest : then_read (operands_at (drop l.form-index l.forms) l.rest) (λ ss more. Got (l.specs.items ++ ss) more) ≡ operands_at l.forms l.b;
}
