use Rattle.std.proofs.Common.{◌≡◌, ℕ, [], ◌∷◌, length, None, Ok, refl, ap, ◌∙◌, subst, arith}
use Rattle.vax_hw.specs.Machine.{psw_of}
use Rattle.vax_table.specs.Effects.{Effect}
use Rattle.vax_table.specs.Interaction.{outcome}
use Rattle.vax_table.specs.Plan.{planned}
use Rattle.vax_table.specs.Spelling.{view}
use Rattle.vax_normal.specs.Normal.{quietly}
use Rattle.vax_paged.specs.Known.{known_space}
use Rattle.vax_normal.specs.Indexed.{indexed_address}
use Rattle.vax_cpu.specs.Completed.{with_registers}
use Rattle.vax_cpu.proofs.IndexedSteps.{indexed_effect, modified_for, open_for}
use Rattle.vax_cpu.proofs.One.{found_steps, runs_on}
use Rattle.vax_cpu.proofs.indexed.step_indexed.Goals as goal

pub returns-in-None : goal.returns-in-None
returns-in-None c =
    let m = c.stands.new.state in
    let r = c.args.r.now in
    let n = c.args.form.now in
    let d = view c.args.kept.now.prepared.decoded in
    let x = c.in_ok-found.found in
    let ks = c.mapped-space.result.known.now in
    let q = c.finish-total.new.r in
    let after = c.retire_at_once.new.self in
    let sixteen : length r ≡ 16 = omega (arith, c.told-r) in
    let fetches = rw (← c.stands.ensures.state) at (c.if-not-stands.ensures.fetched refl) in
    let has = rw (c.mapped-space.ensures.memory) at c.in_ok-there.ensures.number in
    let plans = c.requires.form (known_space m.memory ks) r c.psw.result c.in_ok-there.there.number sixteen has in
    let done : outcome (known_space m.memory ks) (planned d r (psw_of m.world)) ≡ Ok (quietly q x.psw) =
    subst (λ (k : ℕ). outcome (known_space m.memory ks) (planned d r k) ≡ Ok (quietly q x.psw)) c.psw.ensures
    (plans ∙ ap (λ (e : Effect). Ok e) (c.in_ok-found.ensures ∙ indexed_effect n r q x [] c.finish-total.ensures.registers c.in-None.ensures)) in (
      c.finish-total.ensures.sum,
      λ k. rw (← c.stands.ensures.state) (runs_on k (with_registers r m) (with_registers q after)
          (found_steps m after ks r d (quietly q x.psw) c.mapped-space.ensures.known (c.if-not-stands.ensures.planned refl) fetches done refl c.retire_at_once.ensures)),
    )

pub returns-in-Some : goal.returns-in-Some
returns-in-Some c =
    let m = c.stands.new.state in
    let r = c.args.r.now in
    let n = c.args.form.now in
    let d = view c.args.kept.now.prepared.decoded in
    let x = c.in_ok-found.found in
    let ks = c.mapped-space.result.known.now in
    let q = c.finish-total-in-Some.new.r in
    let after = c.retire_storing.new.self in
    let e : Effect = record { r = q; psw = x.psw; writes = c.in-Some.store ∷ []; trap = None } in
    let sixteen : length r ≡ 16 = omega (arith, c.told-r) in
    let memory = c.mapped-space.ensures.memory in
    let fetches = rw (← c.stands.ensures.state) at (c.if-not-stands.ensures.fetched refl) in
    let opened = rw (memory, c.world.ensures) at c.in_ok-there.ensures.place in
    let clear = modified_for m.memory m.world ks n.intent (indexed_address n.reach r) n.reach.width x.value c.in_ok-there.there.place c.in-Some.store opened c.in-Some.ensures in
    let has = rw memory at c.in_ok-there.ensures.number in
    let plans = c.requires.form (known_space m.memory ks) r c.psw.result c.in_ok-there.there.number sixteen has in
    let done : outcome (known_space m.memory ks) (planned d r (psw_of m.world)) ≡ Ok e =
    subst (λ (k : ℕ). outcome (known_space m.memory ks) (planned d r k) ≡ Ok e) c.psw.ensures
    (plans ∙ ap (λ (z : Effect). Ok z) (c.in_ok-found.ensures ∙ indexed_effect n r q x (c.in-Some.store ∷ []) c.finish-total-in-Some.ensures.registers c.in-Some.ensures)) in (
      c.finish-total-in-Some.ensures.sum,
      λ k. rw (← c.stands.ensures.state) (runs_on k (with_registers r m) (with_registers q after)
          (found_steps m after ks r d e c.mapped-space.ensures.known (c.if-not-stands.ensures.planned refl) fetches done clear c.retire_storing.ensures)),
    )

pub retire_storing-requires-clause-place : goal.retire_storing-requires-clause-place
retire_storing-requires-clause-place c =
    let m = c.stands.new.state in
    let n = c.args.form.now in
    let r = c.args.r.now in
    let opened = rw (c.mapped-space.ensures.memory, c.world.ensures) at c.in_ok-there.ensures.place in
    open_for m.memory m.world c.mapped-space.result.known.now n.intent (indexed_address n.reach r) n.reach.width c.in_ok-found.found.value c.in_ok-there.there.place c.in-Some.store opened c.in-Some.ensures
