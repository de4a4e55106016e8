use Rattle.std.proofs.Common.{sym}
use Rattle.vax_operand.proofs.Preparing.{prepared_same, prepared_fits}
use Rattle.vax_operand.proofs.operand.operand_of.Goals as goal

pub returns-clause-outcome : goal.returns-clause-outcome
returns-clause-outcome g c =
    let x = c.args.x.now in rw (sym (prepared_same x.form x.spec x.kind x.length c.args.r.now x.prepared x.bytes)) c.operand_by.ensures.outcome

pub returns-clause-fits : goal.returns-clause-fits
returns-clause-fits g c = let x = c.args.x.now in prepared_fits x.form x.spec x.kind c.operand_by.result c.operand_by.new.value c.operand_by.new.dest x.prepared c.operand_by.ensures.fits
