use Rattle.std.proofs.Common.{arith, refl}
use Rattle.sys_output.proofs.Lines.{row_long, row_whole}
use Rattle.sys_output.proofs.dumps.row_at.Goals as goal

pub loop-number-preserved : goal.loop-number-preserved
loop-number-preserved g c = row_long (g.H.Hardware.machine c.args.machine.now).memory c.args.at c.loop-number.number _ c.loop-number.row _ c.read_long.result c.requires.inside c.loop-number-test.true c.read_long.ensures.bytes c.loop-number.invariant c.read_long.ensures.value c.put_u32.ensures

pub returns : goal.returns
returns g c = row_whole (g.H.Hardware.machine c.args.machine.now).memory c.args.at c.loop-number.number _ c.loop-number.row c.requires.inside (omega arith) (omega arith) refl c.loop-number.invariant
