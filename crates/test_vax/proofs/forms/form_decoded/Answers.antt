use Rattle.std.proofs.Common.{sym, subst}
use Rattle.vax_table.specs.Spelling.{IsWellFormed, view}
use Rattle.vax_table.specs.declared.decoded.Decoded.{Decoded}
use Rattle.test_vax.proofs.forms.form_decoded.Goals as goal

pub form_of-requires : goal.form_of-requires
form_of-requires c = subst (λ (d : Decoded). IsWellFormed (view d)) (sym c.new.ensures) c.requires
