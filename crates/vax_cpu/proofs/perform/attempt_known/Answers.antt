use Rattle.std.proofs.Common.{◌<◌, ◌%◌, ◌^◌, ℕ, refl, subst, sym}
use Rattle.vax_hw.specs.Machine.{seen_psl}
use Rattle.vax_hw.specs.Real.{in_kernel}
use Rattle.vax_table.specs.Effects.{effect}
use Rattle.vax_table.specs.Spelling.{view}
use Rattle.vax_kept.specs.Changed.{AreAlikeBut}
use Rattle.vax_paged.specs.Known.{known_space}
use Rattle.vax_kept.proofs.Changes.{changes_one}
use Rattle.vax_cpu.proofs.One.{known_settled}
use Rattle.vax_cpu.proofs.perform.attempt_known.Goals as goal

pub returns-in-None-clause-changed : goal.returns-in-None-clause-changed
returns-in-None-clause-changed c = λ e few.
    let k = c.args.kept.now in
    let p = k.prepared in
    subst (λ (n : ℕ). AreAlikeBut n c.args.plan.now.r c.plan_into.new.plan.r) (sym k.changes)
    (changes_one (known_space c.mapped-space.result.memory.now c.mapped-space.result.known.now) (view p.decoded) p.operation p.operands.items c.args.plan.now.r (c.seen_psl.result.0 % 2 ^ 8) (effect c.plan_into.new.plan) p.does p.forms p.specs (subst (λ (n : ℕ). n < 15) k.changes few) c.in-Ok.ensures)

pub returns-in-None-clause-attempted : goal.returns-in-None-clause-attempted
returns-in-None-clause-attempted c = λ e.
    let w = c.args.state.now.world in
    let memory = c.mapped-space.ensures.memory in
    let world = c.world-world.ensures in
    let plain = c.if-not-has_known.ensures.planned refl in
    let fetches = rw (memory, world) at (c.if-not-has_known.ensures.fetched refl) in
    let plans = rw (memory, c.seen_psl.ensures, world) at c.in-Ok.ensures in
    let clear = rw (memory, world, c.as_slice.ensures.value) at (c.may_store.ensures e) in
    known_settled c.args.state.now.memory w c.mapped-space.result.known.now (in_kernel w) (seen_psl w) c.args.plan.now.r (view c.args.kept.now.prepared.decoded) (effect c.plan_into.new.plan)
    c.mapped-space.ensures.known plain fetches plans (sym clear)
