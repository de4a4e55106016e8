use Rattle.sys_trace.proofs.Turns.{first_is}
use Rattle.sys_trace.proofs.tracing.first_quantum.Goals as goal

pub returns : goal.returns
returns c = first_is c.args.rows.now _ c.requires
