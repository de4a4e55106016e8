use Rattle.vax_table.proofs.OneSpelling.{prefix_free}
use Rattle.vax_table.proofs.laws.no_spelling_begins_another.Goals as goal

pub returns : goal.returns
returns c = prefix_free
