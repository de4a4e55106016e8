use Rattle.std.proofs.Common.{◌≡◌, ◌++◌, length}
use Rattle.vasm_text.specs.Dis.{dis_of}
use Rattle.vasm_dis.proofs.image.disassemble.Given as goal

abbrev pub invariant-loop-rest : goal.invariant-loop-rest
invariant-loop-rest l = l.text.items ++ dis_of l.rest ≡ dis_of l.fn.image

abbrev pub decreases-loop-rest : goal.decreases-loop-rest
decreases-loop-rest l = length l.rest
