use Rattle.vvmm_laws.proofs.Joined.{parts_make_one, saves_make_one}
use Rattle.vvmm_laws.proofs.snaps.parts_of_a_run_are_one_run.Goals as goal

pub returns-clause-run : goal.returns-clause-run
returns-clause-run c = parts_make_one

pub returns-clause-save : goal.returns-clause-save
returns-clause-save c = saves_make_one
