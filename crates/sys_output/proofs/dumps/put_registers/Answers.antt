use Rattle.std.proofs.Common.{arith}
use Rattle.sys_output.proofs.Lines.{next_register_of}
use Rattle.sys_devices.proofs.OneLine.{begun_on, goes_on_there, stops_there}
use Rattle.sys_devices.proofs.Puts.{hands_on}
use Rattle.sys_output.proofs.dumps.put_registers.Goals as goal

pub loop-number-init : goal.loop-number-init
loop-number-init g c = begun_on c.args.line _ _ (omega (arith, g.met.L.Lines.count c.args.lines.now, c.requires))

pub returns-in_err-put_text : goal.returns-in_err-put_text
returns-in_err-put_text g c =
    stops_there c.args.line _ _ _ _ _ _ _ _ (hands_on _ c.from_residual.result c.from_residual.ensures.1) (next_register_of c.args.r.now c.loop-number.number c.register_text.result (omega arith) c.register_text.ensures.value) c.loop-number.invariant c.in_err-put_text.ensures

pub loop-number-preserved : goal.loop-number-preserved
loop-number-preserved g c =
    goes_on_there c.args.line _ _ _ _ _ _ _ (next_register_of c.args.r.now c.loop-number.number c.register_text.result (omega arith) c.register_text.ensures.value) c.loop-number.invariant c.in_ok-put_text.ensures
