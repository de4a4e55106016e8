use Rattle.std.proofs.Common.{arith}
use Rattle.sys_devices.proofs.Puts.{goes_on, hands_on, stops}
use Rattle.sys_output.proofs.Flat.{flat_next}
use Rattle.sys_snap.specs.Written.{mount_bytes}
use Rattle.sys_output.proofs.server.put_units.Goals as goal

pub returns-in_err-put : goal.returns-in_err-put
returns-in_err-put g c = stops _ _ _ _ _ _ _ _ (hands_on _ c.from_residual.result c.from_residual.ensures.1) (flat_next mount_bytes c.args.units.now c.loop-mount.mount-index _ c.pair_of.result (omega arith) c.pair_of.ensures) c.loop-mount.invariant c.in_err-put.ensures

pub loop-mount-preserved : goal.loop-mount-preserved
loop-mount-preserved g c = goes_on _ _ _ _ _ _ _ (flat_next mount_bytes c.args.units.now c.loop-mount.mount-index _ c.pair_of.result (omega arith) c.pair_of.ensures) c.loop-mount.invariant c.in_ok-put.ensures
