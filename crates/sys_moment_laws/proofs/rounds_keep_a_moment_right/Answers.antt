use Rattle.sys_moment_laws.proofs.Stands.{moments_stand_right, rounds_keep_right}
use Rattle.sys_moment_laws.proofs.rounds_keep_a_moment_right.Goals as goal

pub returns : goal.returns
returns c = record { rounds = rounds_keep_right; moments = moments_stand_right }
