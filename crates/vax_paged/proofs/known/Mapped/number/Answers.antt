use Rattle.std.proofs.Common.{◌<◌, ◌≤◌, ◌+◌, ◌%◌, ℕ, Result, Ok, ap, ◌∙◌, arith}
use Rattle.vv_base.specs.Width.{size_of}
use Rattle.vax_table.specs.Interaction.{Trouble}
use Rattle.vax_table.specs.Troubles.{intent_of}
use Rattle.vax_paged.specs.Paged.{at_byte}
use Rattle.vax_paged.proofs.InPage.{number_known}
use Rattle.vax_paged.proofs.known.Mapped.number.Goals as goal

pub returns-in-Some-clause-number : goal.returns-in-Some-clause-number
returns-in-Some-clause-number c =
    let place : Result ℕ Trouble = Ok c.in-Some.place in
    let some : 0 < size_of c.args.w = omega arith in
    let in_page : c.args.va % 512 + size_of c.args.w ≤ 512 = omega arith in
    ap (λ (n : ℕ). Ok n) c.number_in.ensures.is
    ∙ number_known c.args.self.now.memory.now c.args.self.now.known.now (intent_of c.args.write) (size_of c.args.w) c.args.va place (omega arith) some in_page (ap (at_byte (intent_of c.args.write) c.args.va) c.in-Some.ensures.is)
