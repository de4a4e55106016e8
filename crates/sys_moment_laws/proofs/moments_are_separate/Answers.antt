use Rattle.sys_moment_laws.proofs.Separate.{moments_separate, rounds_keep_purges}
use Rattle.sys_moment_laws.proofs.moments_are_separate.Goals as goal

pub returns : goal.returns
returns c = record { separate = moments_separate; purges = rounds_keep_purges }
