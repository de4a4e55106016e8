use Rattle.vm_simulation_laws.proofs.Fitting.{filled_counted}
use Rattle.vm_simulation_laws.proofs.misses.a_filled_page_is_one_less.Goals as goal

pub returns : goal.returns
returns c = filled_counted
