use Rattle.std.proofs.Common.{◌≡◌, ℕ, [], ◌∷◌, None, Ok, refl, ap, ◌∙◌, subst}
use Rattle.vv_base.specs.declared.width.Width.TheVariants.{Quad}
use Rattle.vax_hw.specs.Machine.{psw_of}
use Rattle.vax_table.specs.Effects.{Effect}
use Rattle.vax_table.specs.Interaction.{outcome}
use Rattle.vax_table.specs.Plan.{planned}
use Rattle.vax_table.specs.Spelling.{view}
use Rattle.vax_normal.specs.Normal.{quietly}
use Rattle.vax_normal.specs.QuadMove.{quad_moved}
use Rattle.vax_paged.specs.Known.{known_space}
use Rattle.vax_cpu.specs.Completed.{with_registers}
use Rattle.vax_cpu.proofs.Claiming.{modified_store, open_store}
use Rattle.vax_cpu.proofs.One.{found_steps, quad_found, runs_on}
use Rattle.vax_cpu.proofs.quad.step_quad.Goals as goal

pub returns-in-None : goal.returns-in-None
returns-in-None c =
    let m = c.stands.new.state in
    let r = c.args.r.now in
    let n = c.args.form.now in
    let d = view c.args.kept.now.prepared.decoded in
    let x = c.in_ok-value.value in
    let codes = c.moved_psw-psw.result in
    let ks = c.mapped-space.result.known.now in
    let q = c.finish-total.new.r in
    let after = c.retire_at_once.new.self in
    let memory = c.mapped-space.ensures.memory in
    let fetches = rw (← c.stands.ensures.state) at (c.if-not-stands.ensures.fetched refl) in
    let claimed = rw memory at c.in_ok-claimed.ensures.number in
    let plans : outcome (known_space m.memory ks) (planned d r c.psw.result) ≡ Ok (quad_moved n x r c.psw.result) =
    (rw memory at c.in_ok-value.ensures) c.in_ok-claimed.claimed.number c.psw.result claimed d c.requires.form in
    let done : outcome (known_space m.memory ks) (planned d r (psw_of m.world)) ≡ Ok (quietly q codes) =
    subst (λ (k : ℕ). outcome (known_space m.memory ks) (planned d r k) ≡ Ok (quietly q codes)) c.psw.ensures
    (plans ∙ ap (λ (e : Effect). Ok e) (quad_found n r q x c.psw.result codes [] c.finish-total.ensures.registers c.moved_psw-psw.ensures c.in-None.ensures)) in (
      c.finish-total.ensures.sum,
      λ k. rw (← c.stands.ensures.state) (runs_on k (with_registers r m) (with_registers q after)
          (found_steps m after ks r d (quietly q codes) c.mapped-space.ensures.known (c.if-not-stands.ensures.planned refl) fetches done refl c.retire_at_once.ensures)),
    )

pub returns-in-Some : goal.returns-in-Some
returns-in-Some c =
    let m = c.stands.new.state in
    let r = c.args.r.now in
    let n = c.args.form.now in
    let d = view c.args.kept.now.prepared.decoded in
    let x = c.in_ok-value.value in
    let codes = c.moved_psw-psw.result in
    let ks = c.mapped-space.result.known.now in
    let q = c.finish-total-in-Some.new.r in
    let after = c.retire_storing.new.self in
    let e : Effect = record { r = q; psw = codes; writes = c.in-Some.store ∷ []; trap = None } in
    let memory = c.mapped-space.ensures.memory in
    let fetches = rw (← c.stands.ensures.state) at (c.if-not-stands.ensures.fetched refl) in
    let opened = rw (memory, c.world.ensures) at c.in_ok-claimed.ensures.place in
    let clear = modified_store m.memory m.world ks n.writes r Quad x c.in_ok-claimed.claimed.place c.in-Some.store opened c.in-Some.ensures in
    let claimed = rw memory at c.in_ok-claimed.ensures.number in
    let plans : outcome (known_space m.memory ks) (planned d r c.psw.result) ≡ Ok (quad_moved n x r c.psw.result) =
    (rw memory at c.in_ok-value.ensures) c.in_ok-claimed.claimed.number c.psw.result claimed d c.requires.form in
    let done : outcome (known_space m.memory ks) (planned d r (psw_of m.world)) ≡ Ok e =
    subst (λ (k : ℕ). outcome (known_space m.memory ks) (planned d r k) ≡ Ok e) c.psw.ensures
    (plans ∙ ap (λ (z : Effect). Ok z) (quad_found n r q x c.psw.result codes (c.in-Some.store ∷ []) c.finish-total-in-Some.ensures.registers c.moved_psw-psw.ensures c.in-Some.ensures)) in (
      c.finish-total-in-Some.ensures.sum,
      λ k. rw (← c.stands.ensures.state) (runs_on k (with_registers r m) (with_registers q after)
          (found_steps m after ks r d e c.mapped-space.ensures.known (c.if-not-stands.ensures.planned refl) fetches done clear c.retire_storing.ensures)),
    )

pub retire_storing-requires-clause-place : goal.retire_storing-requires-clause-place
retire_storing-requires-clause-place c =
    let m = c.stands.new.state in
    let n = c.args.form.now in
    let opened = rw (c.mapped-space.ensures.memory, c.world.ensures) at c.in_ok-claimed.ensures.place in
    open_store m.memory m.world c.mapped-space.result.known.now n.writes c.args.r.now Quad c.in_ok-value.value c.in_ok-claimed.claimed.place c.in-Some.store opened c.in-Some.ensures
