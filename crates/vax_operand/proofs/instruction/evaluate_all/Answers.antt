use Rattle.std.proofs.Common.{arith, ◌∙◌}
use Rattle.std.proofs.lemmas.Result.{err_from_is_err_and}
use Rattle.vax_table.specs.Operand.{evaluated}
use Rattle.vax_operand.specs.Left.{operands_with_registers}
use Rattle.vax_operand.proofs.Steps.{operands_next, operands_stop, fits_next, within}
use Rattle.vax_operand.proofs.instruction.evaluate_all.Goals as goal

pub returns-in_err-operand_of-clause-outcome : goal.returns-in_err-operand_of-clause-outcome
returns-in_err-operand_of-clause-outcome g c =
    let p = err_from_is_err_and c.from_residual.result c.from_residual.ensures.1 in
    rw (p.1, p.2) (operands_stop (g.S.Space.space c.args.space.now) 0 c.args.operands.now (operands_with_registers c.args.v.now c.args.r.now) c.index-operands-0.result _ (omega arith) c.index-operands-0.is c.in_err-operand_of.ensures.outcome)

pub loop-i-init : goal.loop-i-init
loop-i-init g c =
    let e = evaluated c.operand_of.new.value c.operand_of.new.dest c.operand_of.new.r in
    let x = c.index-operands-0.result in
    let o = operands_with_registers c.args.v.now c.args.r.now in
    record {
      same = operands_next (g.S.Space.space c.args.space.now) 0 c.args.operands.now o x e (omega arith) c.index-operands-0.is c.in_ok-operand_of.ensures.outcome;
      fits = fits_next c.args.operands.now o e 0 x c.index-operands-0.is (λ k f h is. absurd (omega arith)) c.in_ok-operand_of.ensures.fits;
    }

pub returns-in_err-operand_of-2-clause-outcome : goal.returns-in_err-operand_of-2-clause-outcome
returns-in_err-operand_of-2-clause-outcome g c =
    let p = err_from_is_err_and c.from_residual-in_err-operand_of-2.result c.from_residual-in_err-operand_of-2.ensures.1 in
    rw (p.1, p.2) (operands_stop (g.S.Space.space c.args.space.now) c.loop-i.i c.args.operands.now (operands_with_registers c.loop-i.v c.loop-i.r) c.index-operands-i.result _ (omega arith) c.index-operands-i.is c.in_err-operand_of-2.ensures.outcome ∙ c.loop-i.invariant.same)

pub loop-i-preserved : goal.loop-i-preserved
loop-i-preserved g c =
    let e = evaluated c.operand_of-in-loop-i.new.value c.operand_of-in-loop-i.new.dest c.operand_of-in-loop-i.new.r in
    let x = c.index-operands-i.result in
    let o = operands_with_registers c.loop-i.v c.loop-i.r in
    record {
      same = operands_next (g.S.Space.space c.args.space.now) c.loop-i.i c.args.operands.now o x e (omega arith) c.index-operands-i.is c.in_ok-operand_of-2.ensures.outcome ∙ c.loop-i.invariant.same;
      fits = fits_next c.args.operands.now o e c.loop-i.i x c.index-operands-i.is c.loop-i.invariant.fits c.in_ok-operand_of-2.ensures.fits;
    }

pub returns-clause-fits : goal.returns-clause-fits
returns-clause-fits g c = λ k f is. let h = within c.args.operands.now k f is in c.loop-i.invariant.fits k f (omega arith) is
