use Rattle.vm_simulation_laws.proofs.Fitting.{new_has}
use Rattle.vm_simulation_laws.proofs.misses.new_tables_have_present.Goals as goal

pub returns : goal.returns
returns c = new_has
