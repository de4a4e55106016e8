use Rattle.vm_exception.proofs.Marking.{left_over, put_left, putting_next}
use Rattle.vm_exception.proofs.writes.put_homes.Goals as goal

pub put_some-done-requires-clause-homes : goal.put_some-done-requires-clause-homes
put_some-done-requires-clause-homes g c = put_left c.args.homes.now c.loop-done.done (g.H.Hardware.machine c.args.machine.now) (g.H.Hardware.machine c.loop-done.machine) c.args.s.now c.loop-done.s c.loop-done.invariant.1 c.requires.homes

pub loop-done-preserved : goal.loop-done-preserved
loop-done-preserved g c = (
  left_over c.args.homes.now c.loop-done.done c.put_some-done.result c.loop-done.invariant.0 c.put_some-done.ensures.within,
  putting_next c.args.homes.now c.loop-done.done (g.H.Hardware.machine c.args.machine.now) (g.H.Hardware.machine c.loop-done.machine) c.args.s.now c.loop-done.s c.loop-done.invariant.1 c.put_some-done.result (g.H.Hardware.machine c.put_some-done.new.machine) c.put_some-done.new.s c.put_some-done.ensures.puts,
)
