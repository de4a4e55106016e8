use Rattle.vm_simulation_laws.proofs.Fitting.{found_have}
use Rattle.vm_simulation_laws.proofs.misses.found_pages_have_entries.Goals as goal

pub returns : goal.returns
returns c = found_have
