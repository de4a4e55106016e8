use Rattle.sys_guests.proofs.Apart.{lies_apart}
use Rattle.sys_guests.proofs.laws.guests_lie_apart.Goals as goal

pub returns : goal.returns
returns c = lies_apart
