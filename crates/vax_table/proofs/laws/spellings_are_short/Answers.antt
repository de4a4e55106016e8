use Rattle.vax_table.proofs.Lengths.{spellings_short}
use Rattle.vax_table.proofs.laws.spellings_are_short.Goals as goal

pub returns : goal.returns
returns c = spellings_short
