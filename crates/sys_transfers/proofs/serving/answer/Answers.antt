use Rattle.std.proofs.Common.{arith}
use Rattle.sys_transfers.proofs.Composing.{becomes_answered}
use Rattle.sys_transfers.proofs.Served.{status_dropped}
use Rattle.sys_transfers.proofs.serving.answer.Goals as goal

pub overflow_add-at : goal.overflow_add-at
overflow_add-at g c = omega (arith, c.requires.inside, c.requires.stands.keeps.fits.small, c.requires.stands.serves.pages)

pub returns-clause-becomes : goal.returns-clause-becomes
returns-clause-becomes g c = becomes_answered c.args.at c.args.status c.put_u32.new.b (g.H.Hardware.machine c.args.machine.now) c.args.guest.now (g.H.Hardware.machine c.store.new.machine) c.store.new.self c.post_kcall.new.self c.requires.stands c.put_u32.ensures c.store.ensures.becomes c.post_kcall.ensures

pub returns-clause-drops : goal.returns-clause-drops
returns-clause-drops g c = status_dropped c.args.at c.args.status c.put_u32.new.b c.args.guest.now c.store.new.self c.post_kcall.new.self c.put_u32.ensures c.store.ensures.drops c.post_kcall.ensures
