use Rattle.std.proofs.Common.{◌≡◌, length}
use Rattle.vasm_text.specs.Cutting.{without_back}
use Rattle.vasm.proofs.cutting.without_back.Given as goal

abbrev pub invariant-loop-rest : goal.invariant-loop-rest
invariant-loop-rest l = without_back l.rest ≡ without_back l.fn.text

abbrev pub decreases-loop-rest : goal.decreases-loop-rest
decreases-loop-rest l = length l.rest
