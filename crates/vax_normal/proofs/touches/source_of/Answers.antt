use Rattle.std.proofs.Common.{◌%◌, ◌^◌, ap, sym, ◌∙◌, refl, ℕ}
use Rattle.vax_operand.specs.declared.kind.Kind.{Kind}
use Rattle.vax_normal.specs.Touched.{value_had}
use Rattle.vax_normal.proofs.Sources.{claimed_sourced, other_value, read_sourced}
use Rattle.vax_normal.proofs.touches.source_of.Goals as goal

pub returns-in-Read : goal.returns-in-Read
returns-in-Read c = λ v u r.
    let x = c.args.x.now in
    ap (λ (k : Kind). value_had v u k x.form.width x.spec r % 2 ^ 32) c.in-Read.is ∙ sym (read_sourced c.constant-number.result v u r (c.constant-number.ensures r))

pub returns-in-Modify : goal.returns-in-Modify
returns-in-Modify c = λ v u r.
    let x = c.args.x.now in
    ap (λ (k : Kind). value_had v u k x.form.width x.spec r % 2 ^ 32) c.in-Modify.is ∙ sym (claimed_sourced c.constant-number.result v u r (c.constant-number.ensures r))

pub returns-in_ok-number_of-in_default : goal.returns-in_ok-number_of-in_default
returns-in_ok-number_of-in_default c = λ v u r.
    let x = c.args.x.now in
    ap (λ (m : ℕ). m % 2 ^ 32) (other_value x.kind x.form.width x.spec v u r c.in_default.not-Read c.in_default.not-Modify) ∙ c.in_ok-number_of-in_default.ensures r r (λ i low. refl)
    ∙ sym (c.at_hand.ensures.value v u r)
