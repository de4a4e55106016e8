use Rattle.vm_shadow.proofs.Hearing.{probes_filled_entries}
use Rattle.vm_shadow.proofs.laws.probes_find_filled_entries.Goals as goal

pub returns : goal.returns
returns c = probes_filled_entries
