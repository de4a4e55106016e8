use Rattle.sys_moment_laws.proofs.Stands.{opens_right, runs_stand_right}
use Rattle.sys_moment_laws.proofs.runs_stand_right.Goals as goal

pub returns : goal.returns
returns c = record { opens = opens_right; runs = runs_stand_right }
