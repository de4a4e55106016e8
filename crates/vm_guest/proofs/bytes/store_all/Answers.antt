use Rattle.std.proofs.Common.{arith, refl}
use Rattle.vm_guest.proofs.Storing.{all_stored, one_stored}
use Rattle.vm_guest.proofs.bytes.store_all.Goals as goal

pub loop-byte-preserved : goal.loop-byte-preserved
loop-byte-preserved g c =
    one_stored c.args.pa c.args.bytes.now c.loop-byte.place c.loop-byte.byte-index (g.H.Hardware.machine c.args.machine.now) c.args.s.now c.args.g.now (g.H.Hardware.machine c.loop-byte.machine) c.loop-byte.s c.requires.stands c.requires.inside c.loop-byte.invariant
    _ (g.H.Hardware.machine c.store_byte.new.machine) c.store_byte.new.self (omega arith) refl c.store_byte.ensures

pub returns : goal.returns
returns g c =
    all_stored c.args.pa c.args.bytes.now c.loop-byte.place c.loop-byte.byte-index (g.H.Hardware.machine c.args.machine.now) c.args.s.now c.args.g.now (g.H.Hardware.machine c.loop-byte.machine) c.loop-byte.s c.requires.stands c.requires.inside c.loop-byte.invariant (omega arith)
