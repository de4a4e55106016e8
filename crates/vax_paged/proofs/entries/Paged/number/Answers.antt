use Rattle.std.proofs.Common.{◌<◌, ◌≤◌, ◌+◌, ◌%◌, ℕ, Result, Ok, ap, ◌∙◌, arith}
use Rattle.vv_base.specs.Width.{size_of}
use Rattle.vax_table.specs.Interaction.{Trouble}
use Rattle.vax_table.specs.Troubles.{intent_of}
use Rattle.vax_paged.proofs.InPage.{number_there}
use Rattle.vax_paged.proofs.entries.Paged.number.Goals as goal

pub returns-clause-number : goal.returns-clause-number
returns-clause-number c =
    let place : Result ℕ Trouble = Ok c.in_ok-place.place in
    let some : 0 < size_of c.args.w = omega arith in
    let in_page : c.args.va % 512 + size_of c.args.w ≤ 512 = omega arith in
    ap (λ (n : ℕ). Ok n) c.number_in.ensures.is
    ∙ number_there c.args.self.now.memory.now c.args.self.now.world.now (intent_of c.args.write) (size_of c.args.w) c.args.va place (omega arith) some in_page c.in_ok-place.ensures.is
