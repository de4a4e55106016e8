use Rattle.std.proofs.Common.{List, None, IfSome, sym, ◌∙◌, subst}
use Rattle.vax_table.specs.Spelling.{view}
use Rattle.vax_table.specs.declared.meaning.Operation.{Operation}
use Rattle.vax_table.specs.declared.meaning.Operation.TheVariants as does
use Rattle.vax_operand.specs.declared.prepared.Operand.{Operand}
use Rattle.vax_normal.specs.Touched.{IsDoneIn}
use Rattle.vax_normal.proofs.Storing.{form_found}
use Rattle.vax_normal.proofs.touches.in_memory_of.Goals as goal

pub returns-in-Compute : goal.returns-in-Compute
returns-in-Compute c =
    let p = c.args.prepared.now in
    let what : Operation = does.Compute c.in-Compute.op c.in-Compute.width c.in-Compute.inputs c.in-Compute.target in
    form_found (λ n. n.writes) c.computed_in_memory.result (view p.decoded) what p.operands.items c.from-length.result (sym c.in-Compute.is ∙ p.does) p.forms p.specs c.requires c.from-length.ensures
    (subst (λ (xs : List Operand). IfSome c.computed_in_memory.result (λ n. IsDoneIn n.writes n what xs)) c.as_slice-operands.ensures.value c.computed_in_memory.ensures.is) c.computed_in_memory.ensures.length

pub returns-in-Push : goal.returns-in-Push
returns-in-Push c =
    let p = c.args.prepared.now in
    form_found (λ n. None) c.pushed_in_memory.result (view p.decoded) does.Push p.operands.items c.from-length.result (sym c.in-Push.is ∙ p.does) p.forms p.specs c.requires c.from-length.ensures
    (subst (λ (xs : List Operand). IfSome c.pushed_in_memory.result (λ n. IsDoneIn None n does.Push xs)) c.as_slice-operands.ensures.value c.pushed_in_memory.ensures.is) c.pushed_in_memory.ensures.length
