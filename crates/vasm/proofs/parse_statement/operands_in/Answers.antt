use Rattle.std.proofs.Common.{drop, length-drop, arith}
use Rattle.vasm.proofs.Later.{none_left}
use Rattle.vasm.proofs.parse_statement.operands_in.Goals as goal

pub returns-in-None : goal.returns-in-None
returns-in-None c = none_left _ (drop c.loop-form.form-index c.args.forms.now) _ (omega (arith, length-drop c.loop-form.form-index c.args.forms.now)) (rw c.in-None.is at c.loop-form.invariant.rest)
