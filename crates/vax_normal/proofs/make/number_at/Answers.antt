use Rattle.std.proofs.Common.{◌≡◌, ◌%◌, ◌^◌, ℕ, List, Option, Some, None, IfSome, ap, ◌∙◌, slice_index}
use Rattle.vax_table.specs.Effects.{long_of}
use Rattle.vax_operand.specs.declared.prepared.Operand.{Operand}
use Rattle.vax_normal.specs.AtHand.{AreAlikeButPc, all_at_hand, value_at_hand}
use Rattle.vax_normal.specs.Normal.{number_by}
use Rattle.vax_normal.specs.declared.shape.Number.{Number}
use Rattle.vax_normal.proofs.Taking.{HasValue, value_at}
use Rattle.vax_normal.proofs.make.number_at.Goals as goal

found_at : (o : Option Number) (x : Operand) (xs : List Operand) (i : ℕ) → ((r q : List ℕ) → AreAlikeButPc r q → HasValue r x (slice_index (all_at_hand xs q).values i)) →
    IfSome o (λ n. (r q : List ℕ) → AreAlikeButPc r q → value_at_hand x.kind x.form.width x.spec q % 2 ^ 32 ≡ number_by n r) → IfSome o (λ n. (r q : List ℕ) → AreAlikeButPc r q → long_of (all_at_hand xs q) i ≡ number_by n r)
found_at None x xs i has h = tt
found_at (Some n) x xs i has h = λ r q alike. let v = has r q alike in ap (λ (m : ℕ). m % 2 ^ 32) v.2 ∙ h r v.0 v.1

pub returns : goal.returns
returns c =
    found_at c.number_of.result c.index-operands-i.result c.args.operands.now c.args.i
    (λ r q alike. value_at r q c.args.i c.args.operands.now c.index-operands-i.result alike c.if-i-operands.false c.requires c.index-operands-i.is) c.number_of.ensures
