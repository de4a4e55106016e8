use Rattle.vax_table.proofs.OneSpelling.{unique}
use Rattle.vax_table.proofs.laws.one_spelling.Goals as goal

pub returns : goal.returns
returns c = unique
