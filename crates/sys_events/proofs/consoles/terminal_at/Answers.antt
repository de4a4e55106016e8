use Rattle.std.proofs.Common.{arith}
use Rattle.sys_events.proofs.consoles.terminal_at.Goals as goal
use Rattle.sys_guests.proofs.Lists.{get_at}

pub returns : goal.returns
returns c = get_at c.args.terminals.now c.args.place _ (omega arith) c.index-terminals-place.is
