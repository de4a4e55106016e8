use Rattle.std.proofs.Common.{ap, ◌∙◌}
use Rattle.vv_base.specs.declared.width.Width.{Width}
use Rattle.vax_operand.specs.declared.kind.Kind.{Kind}
use Rattle.vax_operand.specs.declared.kind.Kind.TheVariants.{ReadRegister}
use Rattle.vax_normal.specs.Touched.{value_had}
use Rattle.vax_normal.proofs.Moving.{pair_same}
use Rattle.vax_normal.proofs.quad.source_of.Goals as goal

pub returns-in-Constant-default : goal.returns-in-Constant-default
returns-in-Constant-default c = λ v u r q moved.
    let x = c.args.x.now in
    ap (λ (k : Kind). value_had v u k x.form.width x.spec q) c.in-Constant-default.is-0

pub returns-in-ReadRegister-Quad : goal.returns-in-ReadRegister-Quad
returns-in-ReadRegister-Quad c = λ v u r q moved.
    let x = c.args.x.now in
    ap (λ (k : Kind). value_had v u k x.form.width x.spec q) c.in-ReadRegister-Quad.is-0 ∙ ap (λ (w : Width). value_had v u ReadRegister w x.spec q) c.in-ReadRegister-Quad.is-1
    ∙ pair_same r q x.spec.reg c.if-x-lt14.true moved

pub returns-in-Read-default : goal.returns-in-Read-default
returns-in-Read-default c = λ v u r q moved.
    let x = c.args.x.now in
    ap (λ (k : Kind). value_had v u k x.form.width x.spec q) c.in-Read-default.is-0
