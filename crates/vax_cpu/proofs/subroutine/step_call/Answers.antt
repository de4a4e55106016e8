use Rattle.std.proofs.Common.{◌≡◌, ℕ, List, [], ◌∷◌, length, None, Ok, refl, ap, ◌∙◌, sym, subst, arith, slice_index}
use Rattle.vv_base.specs.declared.width.Width.TheVariants.{Long}
use Rattle.vax_hw.specs.Machine.{psw_of}
use Rattle.vax_table.specs.Effects.{Effect}
use Rattle.vax_table.specs.Interaction.{outcome}
use Rattle.vax_table.specs.Operand.{plus}
use Rattle.vax_table.specs.Plan.{planned}
use Rattle.vax_table.specs.Spelling.{view}
use Rattle.vax_table.specs.declared.effect.Store.{Store}
use Rattle.vax_paged.specs.Known.{known_space}
use Rattle.vax_normal.specs.Subroutine.{pushed_sp, return_stored}
use Rattle.vax_cpu.specs.Completed.{with_registers}
use Rattle.vax_cpu.proofs.Claiming.{claimed_at, modified_at, open_at}
use Rattle.vax_cpu.proofs.One.{found_steps, runs_on}
use Rattle.vax_cpu.proofs.subroutine.step_call.Goals as goal

pub retire_storing-requires-clause-place : goal.retire_storing-requires-clause-place
retire_storing-requires-clause-place c =
    let m = c.stands.new.state in
    let r = c.args.r.now in
    let opened = rw (c.mapped-space.ensures.memory, c.world.ensures) at c.in_ok-place.ensures.open in
    open_at m.memory m.world c.mapped-space.result.known.now Long (pushed_sp r) (plus (slice_index r 15) c.args.form.now.length) c.in_ok-place.place c.store-store.result opened c.store-store.ensures

pub returns : goal.returns
returns c =
    let m = c.stands.new.state in
    let r = c.args.r.now in
    let n = c.args.form.now in
    let d = view c.args.kept.now.prepared.decoded in
    let ks = c.mapped-space.result.known.now in
    let q = c.finish-total.new.r in
    let psw = c.psw-psw.result in
    let after = c.retire_storing.new.self in
    let x = c.store-store.result in
    let place = c.in_ok-place.place in
    let next : ℕ = plus (slice_index r 15) n.length in
    let e : Effect = record { r = q; psw = psw; writes = x ∷ []; trap = None } in
    let fetches = rw (← c.stands.ensures.state) at (c.if-not-stands.ensures.fetched refl) in
    let opened = rw (c.mapped-space.ensures.memory, c.world.ensures) at c.in_ok-place.ensures.open in
    let clear = modified_at m.memory m.world ks Long (pushed_sp r) next place x opened c.store-store.ensures in
    let claimed = claimed_at m.memory m.world ks Long (pushed_sp r) next place x opened c.store-store.ensures in
    let sixteen : length r ≡ 16 = omega (arith, c.told-r) in
    let plans = c.requires.form (known_space m.memory ks) r psw _ sixteen claimed in
    let registers = ap (λ (z : List ℕ). let y : Effect = record { r = z; psw = psw; writes = return_stored n r ∷ []; trap = None } in Ok y) (sym c.finish-total.ensures.registers) in
    let stores = ap (λ (z : Store). let y : Effect = record { r = q; psw = psw; writes = z ∷ []; trap = None } in Ok y) (sym c.store-store.ensures) in
    let done : outcome (known_space m.memory ks) (planned d r (psw_of m.world)) ≡ Ok e =
    subst (λ (k : ℕ). outcome (known_space m.memory ks) (planned d r k) ≡ Ok e) c.psw-psw.ensures (plans ∙ registers ∙ stores) in (
      c.finish-total.ensures.sum,
      λ k. rw (← c.stands.ensures.state) (runs_on k (with_registers r m) (with_registers q after)
          (found_steps m after ks r d e c.mapped-space.ensures.known (c.if-not-stands.ensures.planned refl) fetches done clear c.retire_storing.ensures)),
    )
