-- What may not flow to an observer might never have been there, from any consistent moment on.
use Rattle.sys_moment_laws.proofs.Stands.{consistent_fits}
use Rattle.sys_moment_laws.specs.Separate.{MomentsAreSeparate, RoundsKeepPurges}
use Rattle.sys_purge.proofs.Depends.{separate_from}
use Rattle.sys_purge.proofs.Lines.{moment_kept}

pub moments_separate : MomentsAreSeparate
moments_separate m es n is right = separate_from m es n is (consistent_fits m.config m.state right)

pub rounds_keep_purges : RoundsKeepPurges
rounds_keep_purges m es n to right = moment_kept m es n (consistent_fits m.config m.state right) to
