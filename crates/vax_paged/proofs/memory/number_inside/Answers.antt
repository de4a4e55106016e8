use Rattle.std.proofs.Common.{◌∙◌, arith}
use Rattle.vax_paged.proofs.Masks.{number_masked}
use Rattle.vax_paged.proofs.memory.number_inside.Goals as goal

pub returns-clause-is : goal.returns-clause-is
returns-clause-is c =
    number_masked c.args.memory.now c.args.at c.from-low.result c.from-high.result c.mask_of.result c.args.w (λ i. omega (arith, c.type_inv.memory i))
    (c.from-low.ensures ∙ c.get_u32.ensures) (c.from-high.ensures ∙ c.get_u32-2.ensures) c.mask_of.ensures
