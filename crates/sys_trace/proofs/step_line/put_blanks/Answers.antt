use Rattle.std.proofs.Common.{◌≡◌, ap, arith, length}
use Rattle.sys_trace.proofs.Columns.{size_by}
use Rattle.sys_trace.proofs.step_line.put_blanks.Goals as goal

pub returns-clause-size : goal.returns-clause-size
returns-clause-size c =
    let same : length c.bytes.result.now ≡ length c.loop-line.line = ap length c.bytes.ensures.value in
    size_by c.args.column c.args.line.now c.loop-line.line (omega (arith, same)) c.loop-line.invariant
