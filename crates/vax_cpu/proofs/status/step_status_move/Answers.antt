use Rattle.std.proofs.Common.{◌≡◌, ℕ, Ok, length, refl, ap, ◌∙◌, arith, slice_index}
use Rattle.vax_hw.specs.Machine.{Machine, psw_of, seen_psl}
use Rattle.vax_table.specs.Interaction.{outcome}
use Rattle.vax_table.specs.Plan.{plan_of}
use Rattle.vax_table.specs.Spelling.{view}
use Rattle.vax_normal.specs.Normal.{quietly}
use Rattle.vax_paged.specs.Paged.{paged}
use Rattle.vax_normal.specs.StatusMove.{status_finished}
use Rattle.vax_cpu.specs.Completed.{completed_but_registers, with_registers}
use Rattle.vax_cpu.proofs.One.{runs_on}
use Rattle.vax_cpu.proofs.StatusSteps.{seen_status, status_steps}
use Rattle.vax_cpu.proofs.status.step_status_move.Goals as goal

pub returns : goal.returns
returns c =
    let m = c.args.state.now in
    let r = c.args.r.now in
    let q = c.finish-total.new.r in
    let n = c.args.form.now in
    let d = view c.args.kept.now.prepared.decoded in
    let after = c.retire_at_once.new.self in
    let psl : ℕ = seen_psl m.world in
    let codes = c.psw-psw.result in
    let same : c.stands_in_page.new.state ≡ m = c.stands_in_page.ensures.state in
    let sixteen : length r ≡ 16 = omega (arith, c.told-r) in
    let word : codes ≡ psw_of m.world = c.psw-psw.ensures ∙ ap (λ (x : Machine). psw_of x.world) same in
    let seen : c.seen_psl-psl.result.0 ≡ psl = rw (c.world.ensures, same) at c.seen_psl-psl.ensures in
    let goes : q ≡ status_finished n psl r = c.finish-total.ensures.registers ∙ ap (λ (k : ℕ). status_finished n k r) seen in
    let plans : outcome (paged m.memory m.world) (plan_of psl d r) ≡ Ok (quietly q codes) =
    rw (goes, word) (c.requires.form.1 (paged m.memory m.world) r psl sixteen ∙ ap (λ (k : ℕ). Ok (quietly (status_finished n psl r) k)) (seen_status m)) in (
      c.finish-total.ensures.sum,
      λ k. runs_on k (with_registers r m) (with_registers q after)
          (status_steps m after r q d codes c.requires.form.0 (c.if-not-stands_in_page.ensures.fetched refl) plans (c.retire_at_once.ensures ∙ ap (completed_but_registers (slice_index r 15) d.opcode (quietly q codes)) same)),
    )
