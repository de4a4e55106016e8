use Rattle.vm_shadow.proofs.Hearing.{misses_empty_entries}
use Rattle.vm_shadow.proofs.laws.misses_are_of_empty_entries.Goals as goal

pub returns : goal.returns
returns c = misses_empty_entries
