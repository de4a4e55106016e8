use Rattle.vm_state.proofs.Finds.{finds_one_entry}
use Rattle.vm_state.proofs.laws.walks_find_one_entry.Goals as goal

pub returns : goal.returns
returns c = finds_one_entry
