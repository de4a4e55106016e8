use Rattle.vax_table.proofs.Instructions.{reading_exact}
use Rattle.vax_table.proofs.laws.reading_is_exact.Goals as goal

pub returns : goal.returns
returns c = reading_exact
