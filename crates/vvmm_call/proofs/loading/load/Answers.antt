use Rattle.std.proofs.Common.{◌≡◌, ◌∙◌, [], arith, length, sym, ap}
use Rattle.std.proofs.lemmas.List.{length-map}
use Rattle.vv_gen.specs.Workload.{Generated, generated}
use Rattle.vvmm_call.proofs.Workloads.{as_drawn, few_steps, many_images, runs_over, twenty_rounds}
use Rattle.vvmm_call.proofs.loading.load.Goals as goal

pub run_with-ran-requires-clause-images : goal.run_with-ran-requires-clause-images
run_with-ran-requires-clause-images g c = ap length c.as_slice.ensures.value ∙ sym (length-map c.in-Ok.work.images.items (λ b. b.items)) ∙ many_images (generated c.in-Ok.work) c.in-Ok.ensures.accepted

pub run_with-ran-requires-clause-few : goal.run_with-ran-requires-clause-few
run_with-ran-requires-clause-few g c =
    let twenty : c.in-Ok.work.rounds ≡ 20 = ap (λ (x : Generated). x.rounds) c.in-Ok.ensures.exact ∙ twenty_rounds c.args.number in
    omega (arith, twenty)

pub answer-requires : goal.answer-requires
answer-requires g c =
    let twenty : c.in-Ok.work.rounds ≡ 20 = ap (λ (x : Generated). x.rounds) c.in-Ok.ensures.exact ∙ twenty_rounds c.args.number in
    few_steps _ _ _ _ _ c.run_with-ran.result _ twenty (c.run_with-ran.ensures [])

pub returns : goal.returns
returns g c drives = as_drawn (generated c.in-Ok.work) _ _ _ _ c.args.number c.run_with-ran.result c.in-Ok.ensures.exact c.in-Ok.ensures.accepted
    (runs_over c.in-Ok.work _ _ _ _ _ c.as_slice.ensures.value c.as_slice-2.ensures.value c.as_slice-3.ensures.value (c.run_with-ran.ensures drives)) c.answer.ensures
