use Rattle.std.proofs.Common.{Some, ap, ◌∙◌, sym, ◌==◌}
use Rattle.vasm_text.specs.Cutting.{Cut}
use Rattle.vasm.proofs.Cuts.{cut_found, cut_missed}
use Rattle.vasm.proofs.cutting.cut_at.Goals as goal

pub returns-in-Some : goal.returns-in-Some
returns-in-Some c = ap (λ (x : Cut). Some x) c.split.ensures ∙ sym (cut_found (λ b. b == c.args.mark) c.args.text.now c.in-Some.at (sym c.in-Some.ensures.value))

pub returns-in-None : goal.returns-in-None
returns-in-None c = sym (cut_missed (λ b. b == c.args.mark) c.args.text.now (sym c.in-None.ensures.value))
