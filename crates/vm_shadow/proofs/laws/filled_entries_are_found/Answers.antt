use Rattle.vm_shadow.proofs.Hearing.{finds_filled_entries}
use Rattle.vm_shadow.proofs.laws.filled_entries_are_found.Goals as goal

pub returns : goal.returns
returns c = finds_filled_entries
