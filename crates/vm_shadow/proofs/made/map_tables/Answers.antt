use Rattle.std.proofs.Common.{arith, ◌+◌, subst, sym}
use Rattle.vm_shadow.specs.Calls.{Maps}
use Rattle.vm_shadow.proofs.Making.{maps_next}
use Rattle.vm_shadow.proofs.made.map_tables.Goals as goal

pub loop-j-preserved : goal.loop-j-preserved
loop-j-preserved g c =
    let d = c.loop-j.invariant in
    subst (Maps c.args.at (c.loop-j.j + 1) (g.H.Hardware.machine c.args.machine.now)) (sym c.write_long.ensures)
    (maps_next c.args.at c.loop-j.j (g.H.Hardware.machine c.args.machine.now) (g.H.Hardware.machine c.loop-j.machine) (omega (arith, c.loop-j-test.true)) (omega (arith, c.requires.room, d.only.tables.size)) d)
