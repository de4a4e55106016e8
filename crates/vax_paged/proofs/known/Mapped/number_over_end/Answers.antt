use Rattle.std.proofs.Common.{ℕ, Ok, ap, ◌∙◌, arith}
use Rattle.vax_table.specs.Troubles.{intent_of}
use Rattle.vax_paged.proofs.InPage.{over_end_known}
use Rattle.vax_paged.proofs.known.Mapped.number_over_end.Goals as goal

pub returns-in-Some-place-clause-number : goal.returns-in-Some-place-clause-number
returns-in-Some-place-clause-number c =
    ap (λ (n : ℕ). Ok n) c.bytes_over.ensures.is
    ∙ over_end_known c.args.self.memory.now c.args.self.known.now (intent_of c.args.write) c.args.bytes c.args.va c.in-Some.low c.in-Some-place.high (omega arith) c.requires.over_end c.requires.few c.in-Some.ensures.is c.in-Some-place.ensures.is
