use Rattle.std.proofs.Common.{ap, ◌∙◌}
use Rattle.vax_operand.specs.declared.kind.Base.{Base}
use Rattle.vax_operand.specs.declared.kind.Kind.TheVariants.{Bits}
use Rattle.vax_normal.proofs.BitTests.{deferred_base, displaced_base}
use Rattle.vax_normal.proofs.bit_test.base_of.Goals as goal

pub returns-in-Deferred-None : goal.returns-in-Deferred-None
returns-in-Deferred-None c = deferred_base c.offset_from.result c.args.x.now (c.in-Bits.is ∙ ap (λ (b : Base). Bits b) c.in-Deferred-None.is-0) c.in-Deferred-None.is-1 c.offset_from.ensures

pub returns-in-Displaced-None : goal.returns-in-Displaced-None
returns-in-Displaced-None c =
    let arm = c.in-Displaced-None in
    displaced_base c.offset_from-in-Displaced-None.result c.args.x.now arm.offset (c.in-Bits.is ∙ ap (λ (b : Base). Bits b) arm.is-0) arm.is-1 c.offset_from-in-Displaced-None.ensures
