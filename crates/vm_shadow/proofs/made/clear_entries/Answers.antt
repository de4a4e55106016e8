use Rattle.std.proofs.Common.{arith, ◌+◌, subst, sym}
use Rattle.vm_shadow.specs.Calls.{Clears}
use Rattle.vm_shadow.proofs.Making.{clears_next}
use Rattle.vm_shadow.proofs.made.clear_entries.Goals as goal

pub loop-n-preserved : goal.loop-n-preserved
loop-n-preserved g c =
    let d = c.loop-n.invariant in
    subst (Clears c.args.at (c.loop-n.n + 1) (g.H.Hardware.machine c.args.machine.now)) (sym c.write_long.ensures)
    (clears_next c.args.at c.loop-n.n c.entry_place.result (g.H.Hardware.machine c.args.machine.now) (g.H.Hardware.machine c.loop-n.machine) (omega (arith, c.loop-n-test.true)) (omega (arith, c.requires.room, d.only.tables.size)) c.entry_place.ensures d)
