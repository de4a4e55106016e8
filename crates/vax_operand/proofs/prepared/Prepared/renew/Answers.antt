use Rattle.std.proofs.Common.{◌∙◌}
use Rattle.vax_table.specs.Spelling.{view}
use Rattle.vax_table.proofs.Standings.{well_formed}
use Rattle.vax_operand.proofs.prepared.Prepared.renew.Goals as goal

pub prepare_into-requires-clause-stand : goal.prepare_into-requires-clause-stand
prepare_into-requires-clause-stand c = rw (c.as_slice.ensures.value ∙ c.forms.ensures, c.as_slice-2.ensures.value) (well_formed (view c.args.decoded) c.requires)
