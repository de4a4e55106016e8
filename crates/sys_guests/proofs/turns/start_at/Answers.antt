use Rattle.std.proofs.Common.{arith}
use Rattle.sys_guests.proofs.One.{one_starts}
use Rattle.sys_guests.proofs.Present.{one_reset}
use Rattle.sys_guests.proofs.turns.start_at.Goals as goal

pub returns-clause-starts : goal.returns-clause-starts
returns-clause-starts g c = one_starts c.args.place c.args.guests.now.items c.index_mut-guest.result.now _ _ _ (omega arith) c.index_mut-guest.ensures.value c.start.ensures.becomes

pub returns-clause-rest : goal.returns-clause-rest
returns-clause-rest g c = c.start.ensures.becomes.rest

pub returns-clause-present : goal.returns-clause-present
returns-clause-present g c = one_reset c.args.guests.now.items c.args.place c.index_mut-guest.result.now _ _ _ (omega arith) c.index_mut-guest.ensures.value c.start.ensures.becomes.guest c.start.ensures.present
