use Rattle.vax_hw.proofs.Runs.{goes_on}
use Rattle.vax_hw.proofs.laws.runs_go_on.Goals as goal

pub returns : goal.returns
returns c = goes_on
