use Rattle.std.proofs.Common.{◌≡◌, ◌%◌, ◌^◌, ℕ, List, Option, Some, None, IfSome, ap, ◌∙◌}
use Rattle.vax_operand.specs.declared.kind.Kind.{Kind}
use Rattle.vax_operand.specs.declared.prepared.Operand.{Operand}
use Rattle.vax_normal.specs.AtHand.{AreAlikeButPc, value_at_hand}
use Rattle.vax_normal.specs.Normal.{number_by}
use Rattle.vax_normal.specs.declared.shape.Number.{Number}
use Rattle.vax_normal.proofs.number.number_of.Goals as goal

of_kind : (o : Option Number) (x : Operand) (k : Kind) → x.kind ≡ k → IfSome o (λ n. (r q : List ℕ) → AreAlikeButPc r q → value_at_hand k x.form.width x.spec q % 2 ^ 32 ≡ number_by n r) →
    IfSome o (λ n. (r q : List ℕ) → AreAlikeButPc r q → value_at_hand x.kind x.form.width x.spec q % 2 ^ 32 ≡ number_by n r)
of_kind None x k is h = tt
of_kind (Some n) x k is h = λ r q alike. ap (λ (z : Kind). value_at_hand z x.form.width x.spec q % 2 ^ 32) is ∙ h r q alike

pub returns-in-ReadRegister : goal.returns-in-ReadRegister
returns-in-ReadRegister c = of_kind c.in_register.result c.args.x.now _ c.in-ReadRegister.is c.in_register.ensures

pub returns-in-ModifyRegister : goal.returns-in-ModifyRegister
returns-in-ModifyRegister c = of_kind c.in_register-in-ModifyRegister.result c.args.x.now _ c.in-ModifyRegister.is c.in_register-in-ModifyRegister.ensures

pub returns-in-Address : goal.returns-in-Address
returns-in-Address c = of_kind c.address_of.result c.args.x.now _ c.in-Address.is c.address_of.ensures
