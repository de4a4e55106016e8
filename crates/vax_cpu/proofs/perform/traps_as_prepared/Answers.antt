use Rattle.std.proofs.Common.{◌≡◌, List, None, length, slice_index_or, ap, subst, arith}
use Rattle.std.proofs.lemmas.Bool.{eqb-true, ne_eqb}
use Rattle.vax_table.specs.Spelling.{view}
use Rattle.vax_table.specs.declared.decoded.Spec.{Spec}
use Rattle.vax_cpu.proofs.Traps.{traps_alike, traps_to_register}
use Rattle.vax_cpu.proofs.perform.traps_as_prepared.Goals as goal

pub returns-then-d : goal.returns-then-d
returns-then-d c = λ u r. traps_alike (view c.args.d.now) r (ne_eqb c.args.d.now.opcode 0xdb c.if-d.true)

pub returns-in-len2 : goal.returns-in-len2
returns-in-len2 c = λ t r.
    let z : Spec = record { index = None; mode = 0; reg = 0; value = 0 } in
    let e : c.as_slice.result.now ≡ c.args.d.now.specs.items = c.as_slice.ensures.value in
    let two : length c.args.d.now.specs.items ≡ 2 = omega (arith, ap (λ (x : List Spec). length x) e, c.in-len2.len_at_least, c.in-len2.len_below) in
    let register : (slice_index_or c.args.d.now.specs.items 1 z).mode ≡ 5 = subst (λ (x : List Spec). (slice_index_or x 1 z).mode ≡ 5) e (eqb-true _ _ t) in
    traps_to_register (view c.args.d.now) z r c.if-d.false two register
