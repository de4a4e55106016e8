use Rattle.sys_moment_laws.proofs.Holds.{rounds_keep, runs_keep}
use Rattle.sys_moment_laws.proofs.rounds_keep_them.Goals as goal

pub returns-clause-rounds : goal.returns-clause-rounds
returns-clause-rounds c = rounds_keep

pub returns-clause-runs : goal.returns-clause-runs
returns-clause-runs c = runs_keep
