use Rattle.std.proofs.Common.{◌∙◌, arith}
use Rattle.sys_trace.proofs.Columns.{registers_next}
use Rattle.sys_trace.proofs.words.put_registers.Goals as goal

pub loop-n-preserved : goal.loop-n-preserved
loop-n-preserved c = (
  registers_next c.loop-n.n c.args.before.now c.args.after.now c.loop-n.line c.put_changed.new.line c.args.line.now c.as_bytes.result.now c.loop-n-test.true (omega (arith, c.told-before)) (omega (arith, c.told-after)) (c.as_bytes.ensures.value ∙ c.register_name.ensures.name) c.put_changed.ensures.word c.loop-n.invariant.0,
  omega (arith, c.loop-n.invariant.1, c.put_changed.ensures.grows),
)
