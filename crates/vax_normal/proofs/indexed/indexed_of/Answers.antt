use Rattle.std.proofs.Common.{List, IfSome, sym, ◌∙◌, subst}
use Rattle.vax_table.specs.Spelling.{view}
use Rattle.vax_table.specs.declared.meaning.Operation.{Operation}
use Rattle.vax_table.specs.declared.meaning.Operation.TheVariants as does
use Rattle.vax_operand.specs.declared.prepared.Operand.{Operand}
use Rattle.vax_normal.specs.Indexed.{IsIndexedDone}
use Rattle.vax_normal.proofs.Indexing.{indexed_form}
use Rattle.vax_normal.proofs.indexed.indexed_of.Goals as goal

pub returns-in-Compute : goal.returns-in-Compute
returns-in-Compute c =
    let p = c.args.prepared.now in
    let what : Operation = does.Compute c.in-Compute.op c.in-Compute.width c.in-Compute.inputs c.in-Compute.target in
    indexed_form c.computed_indexed.result (view p.decoded) what p.operands.items c.from-length.result (sym c.in-Compute.is ∙ p.does) p.forms p.specs c.requires c.from-length.ensures
    (subst (λ (xs : List Operand). IfSome c.computed_indexed.result (λ n. IsIndexedDone n what xs)) c.as_slice-operands.ensures.value c.computed_indexed.ensures.is) c.computed_indexed.ensures.length
