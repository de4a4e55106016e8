use Rattle.std.proofs.Common.{◌≡◌, ℕ, List, [], ◌∷◌, None, Ok, refl, ap, ◌∙◌, subst}
use Rattle.vax_hw.specs.Machine.{psw_of}
use Rattle.vax_table.specs.Effects.{Effect}
use Rattle.vax_table.specs.Interaction.{outcome}
use Rattle.vax_table.specs.Plan.{planned}
use Rattle.vax_table.specs.Spelling.{view}
use Rattle.vax_normal.specs.InMemory.{found_in_memory}
use Rattle.vax_normal.specs.Normal.{quietly}
use Rattle.vax_paged.specs.Known.{known_space}
use Rattle.vax_cpu.specs.Completed.{with_registers}
use Rattle.vax_cpu.proofs.Claiming.{modified_store, open_store}
use Rattle.vax_cpu.proofs.One.{effect_found, found_steps, runs_on}
use Rattle.vax_cpu.proofs.in_memory.step_in_memory.Goals as goal

pub returns-in-None : goal.returns-in-None
returns-in-None c =
    let m = c.stands.new.state in
    let r = c.args.r.now in
    let n = c.args.form.now in
    let d = view c.args.kept.now.prepared.decoded in
    let x = c.in_ok-found.found in
    let ks = c.mapped-space.result.known.now in
    let q = c.finish-total.new.r in
    let after = c.retire_at_once.new.self in
    let memory = c.mapped-space.ensures.memory in
    let fetches = rw (← c.stands.ensures.state) at (c.if-not-stands.ensures.fetched refl) in
    let plans : outcome (known_space m.memory ks) (planned d r (psw_of m.world)) ≡ Ok (found_in_memory n r x) =
    subst (λ (k : ℕ). outcome (known_space m.memory ks) (planned d r k) ≡ Ok (found_in_memory n r x)) c.psw.ensures
    (subst (λ (xs : List ℕ). outcome (known_space xs ks) (planned d r c.psw.result) ≡ Ok (found_in_memory n r x)) memory (c.in_ok-found.ensures d c.requires.form)) in
    let done : outcome (known_space m.memory ks) (planned d r (psw_of m.world)) ≡ Ok (quietly q x.psw) =
    plans ∙ ap (λ (e : Effect). Ok e) (effect_found n r q x [] c.finish-total.ensures.registers c.in-None.ensures) in (
      c.finish-total.ensures.sum,
      λ k. rw (← c.stands.ensures.state) (runs_on k (with_registers r m) (with_registers q after)
          (found_steps m after ks r d (quietly q x.psw) c.mapped-space.ensures.known (c.if-not-stands.ensures.planned refl) fetches done refl c.retire_at_once.ensures)),
    )

pub returns-in-Some : goal.returns-in-Some
returns-in-Some c =
    let m = c.stands.new.state in
    let r = c.args.r.now in
    let n = c.args.form.now in
    let d = view c.args.kept.now.prepared.decoded in
    let x = c.in_ok-found.found in
    let ks = c.mapped-space.result.known.now in
    let q = c.finish-total-in-Some.new.r in
    let after = c.retire_storing.new.self in
    let e : Effect = record { r = q; psw = x.psw; writes = c.in-Some.store ∷ []; trap = None } in
    let memory = c.mapped-space.ensures.memory in
    let fetches = rw (← c.stands.ensures.state) at (c.if-not-stands.ensures.fetched refl) in
    let opened = rw (memory, c.world.ensures) at c.in_ok-claimed.ensures.place in
    let clear = modified_store m.memory m.world ks n.writes r n.width x.value c.in_ok-claimed.claimed.place c.in-Some.store opened c.in-Some.ensures in
    let plans : outcome (known_space m.memory ks) (planned d r (psw_of m.world)) ≡ Ok (found_in_memory n r x) =
    subst (λ (k : ℕ). outcome (known_space m.memory ks) (planned d r k) ≡ Ok (found_in_memory n r x)) c.psw.ensures
    (subst (λ (xs : List ℕ). outcome (known_space xs ks) (planned d r c.psw.result) ≡ Ok (found_in_memory n r x)) memory (c.in_ok-found.ensures d c.requires.form)) in
    let done : outcome (known_space m.memory ks) (planned d r (psw_of m.world)) ≡ Ok e =
    plans ∙ ap (λ (z : Effect). Ok z) (effect_found n r q x (c.in-Some.store ∷ []) c.finish-total-in-Some.ensures.registers c.in-Some.ensures) in (
      c.finish-total-in-Some.ensures.sum,
      λ k. rw (← c.stands.ensures.state) (runs_on k (with_registers r m) (with_registers q after)
          (found_steps m after ks r d e c.mapped-space.ensures.known (c.if-not-stands.ensures.planned refl) fetches done clear c.retire_storing.ensures)),
    )

pub retire_storing-requires-clause-place : goal.retire_storing-requires-clause-place
retire_storing-requires-clause-place c =
    let m = c.stands.new.state in
    let n = c.args.form.now in
    let opened = rw (c.mapped-space.ensures.memory, c.world.ensures) at c.in_ok-claimed.ensures.place in
    open_store m.memory m.world c.mapped-space.result.known.now n.writes c.args.r.now n.width c.in_ok-found.found.value c.in_ok-claimed.claimed.place c.in-Some.store opened c.in-Some.ensures
