use Rattle.std.proofs.Common.{sym}
use Rattle.vasm_dis.proofs.Lines.{all_shown}
use Rattle.vasm_dis.proofs.image.disassemble.Goals as goal

pub returns : goal.returns
returns c = all_shown _ c.loop-rest.rest.now _ (sym c.loop-rest-test.ensures) c.loop-rest.invariant
