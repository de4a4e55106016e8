use Rattle.std.proofs.Common.{refl}
use Rattle.vm_emulate.proofs.Saving.{storing_next}
use Rattle.vm_emulate.proofs.saves.store_longs.Goals as goal

pub loop-long-preserved : goal.loop-long-preserved
loop-long-preserved g c =
    storing_next c.args.at c.args.longs.now c.loop-long.long-index c.loop-long.place (g.H.Hardware.machine c.args.machine.now) (g.H.Hardware.machine c.loop-long.machine) c.args.s.now c.loop-long.s c.loop-long-test.true c.loop-long.invariant
    _ _ (g.H.Hardware.machine c.store_long.new.machine) c.store_long.new.self refl refl c.store_long.ensures
