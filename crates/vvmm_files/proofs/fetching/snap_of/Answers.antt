use Rattle.std.proofs.Common.{◌<◌, arith}
use Rattle.std.proofs.lemmas.List.Elements.{All-from_get_or}
use Rattle.sys_snap.proofs.OnlyStates.{reads_only_snaps}
use Rattle.vvmm_files.proofs.fetching.snap_of.Goals as goal

pub returns-in-Ok-clause-means : goal.returns-in-Ok-clause-means
returns-in-Ok-clause-means c = reads_only_snaps c.args.bytes.now _ (All-from_get_or (λ b. b < 256) c.args.bytes.now 0 (λ i within. omega (arith, c.type_inv.bytes i))) c.in-Ok.ensures.reads.0
