use Rattle.vm_emulate.proofs.Loading.{bits_are, refused_is}
use Rattle.vm_emulate.proofs.loads.Block.is_reserved.Goals as goal

pub returns-then-refuses_register : goal.returns-then-refuses_register
returns-then-refuses_register c = λ h k. refused_is h c.args.self.now c.refuses_register.result k c.refuses_register.ensures c.if-refuses_register.true

pub returns-else-refuses_register : goal.returns-else-refuses_register
returns-else-refuses_register c = λ h k. bits_are h c.args.self.now c.refuses_register.result c.has_reserved_bit.result k c.refuses_register.ensures c.if-refuses_register.false c.has_reserved_bit.ensures
