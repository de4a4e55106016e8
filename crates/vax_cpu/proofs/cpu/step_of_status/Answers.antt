use Rattle.std.proofs.Common.{◌≡◌, List, [], None, Option, ap, refl, sym, slice_index, ◌∙◌, ℕ}
use Rattle.std.proofs.lemmas.Bool.{eqb-true}
use Rattle.std.proofs.lemmas.List.{nil_from_length}
use Rattle.vax_hw.specs.Machine.{Machine}
use Rattle.vax_table.specs.Effects.{Effect, effect}
use Rattle.vax_table.specs.declared.effect.Plan.{Plan}
use Rattle.vax_table.specs.declared.effect.Store.{Store}
use Rattle.vax_normal.specs.Normal.{quietly}
use Rattle.vax_cpu.specs.Completed.{completed_but_registers, with_registers}
use Rattle.vax_cpu.proofs.One.{attempt_retires, runs_on}
use Rattle.vax_cpu.proofs.cpu.step_of_status.Goals as goal

-- a plan without stores and without a trap
quiet : (p : Plan) → p.trap ≡ None → p.writes.items ≡ [] → effect p ≡ quietly p.r p.psw
quiet p e f =
    ap (λ (t : Option ℕ). let x : Effect = record { r = p.r; psw = p.psw; writes = p.writes.items; trap = t } in x) e
    ∙ ap (λ (ws : List Store). let x : Effect = record { r = p.r; psw = p.psw; writes = ws; trap = None } in x) f

pub returns-then-is_empty : goal.returns-then-is_empty
returns-then-is_empty c =
    let m : Machine = with_registers c.args.plan.now.r c.args.state.now in
    let known = c.if-not-attempt_of_status.ensures in
    let p = c.attempt_of_status.new.plan in
    let none : p.writes.items ≡ [] = nil_from_length p.writes.items (eqb-true _ _ (sym c.is_empty.ensures ∙ c.if-is_empty.true)) in
    let same = c.stands_in_page.ensures.state in
    let retired = (rw same at c.retire_at_once.ensures) ∙ ap (λ (e : Effect). completed_but_registers (slice_index c.args.plan.now.r 15) c.args.kept.now.prepared.decoded.opcode e c.args.state.now) (sym (quiet p (known.untrapped refl) none)) in
    let done = attempt_retires c.args.state.now c.retire_at_once.new.self c.args.plan.now.r c.args.kept.now.prepared.decoded.opcode (effect p) (rw same at (known.attempted refl)) retired in
    (c.sum_of-total.ensures, λ n. runs_on n m _ (rw (known.untrapped refl) at done))

pub returns-else-is_empty : goal.returns-else-is_empty
returns-else-is_empty c =
    let m : Machine = with_registers c.args.plan.now.r c.args.state.now in
    let known = c.if-not-attempt_of_status.ensures in
    let same = c.stands_in_page.ensures.state in
    let done = attempt_retires c.args.state.now c.retire.new.self c.args.plan.now.r c.args.kept.now.prepared.decoded.opcode (effect c.attempt_of_status.new.plan) (rw same at (known.attempted refl)) (rw same at c.retire.ensures) in
    (c.sum_of-total.ensures, λ n. runs_on n m _ (rw (known.untrapped refl) at done))
