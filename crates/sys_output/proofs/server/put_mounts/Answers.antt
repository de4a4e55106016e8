use Rattle.std.proofs.Common.{arith, refl}
use Rattle.sys_devices.proofs.Puts.{goes_on, hands_on, stops}
use Rattle.sys_output.proofs.Flat.{flat_next}
use Rattle.sys_output.specs.Parts.{unit_bytes}
use Rattle.sys_output.proofs.server.put_mounts.Goals as goal

pub returns-in_err-put_units : goal.returns-in_err-put_units
returns-in_err-put_units g c = stops _ _ _ _ _ _ _ _ (hands_on _ c.from_residual.result c.from_residual.ensures.1) (flat_next unit_bytes c.args.mounts.now c.loop-units.units-index _ _ (omega arith) refl) c.loop-units.invariant c.in_err-put_units.ensures

pub loop-units-preserved : goal.loop-units-preserved
loop-units-preserved g c = goes_on _ _ _ _ _ _ _ (flat_next unit_bytes c.args.mounts.now c.loop-units.units-index _ _ (omega arith) refl) c.loop-units.invariant c.in_ok-put_units.ensures
