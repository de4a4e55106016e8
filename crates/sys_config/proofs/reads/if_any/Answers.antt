use Rattle.std.proofs.Common.{refl}
use Rattle.sys_config.proofs.reads.if_any.Goals as goal

pub returns-in-Some-read : goal.returns-in-Some-read
returns-in-Some-read g c = rw c.in-Some.is (c.read.result, (c.in-Some.value, c.read.ensures, refl), rw c.in-Some-read.is refl)

pub returns-in-None : goal.returns-in-None
returns-in-None g c = rw c.in-Some.is (c.read.result, (c.in-Some.value, c.read.ensures, refl), rw c.in-None.is refl)
