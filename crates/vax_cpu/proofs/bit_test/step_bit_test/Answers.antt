use Rattle.std.proofs.Common.{◌≡◌, ℕ, List, length, Ok, refl, ap, ◌∙◌, subst, sym, arith}
use Rattle.vax_hw.specs.Machine.{psw_of}
use Rattle.vax_table.specs.Interaction.{outcome}
use Rattle.vax_table.specs.Plan.{planned}
use Rattle.vax_table.specs.Spelling.{view}
use Rattle.vax_normal.specs.Normal.{quietly}
use Rattle.vax_paged.specs.Known.{known_space}
use Rattle.vax_cpu.specs.Completed.{with_registers}
use Rattle.vax_cpu.proofs.One.{found_steps, runs_on}
use Rattle.vax_cpu.proofs.bit_test.step_bit_test.Goals as goal

pub returns : goal.returns
returns c =
    let m = c.stands.new.state in
    let r = c.args.r.now in
    let d = view c.args.kept.now.prepared.decoded in
    let ks = c.mapped-space.result.known.now in
    let q = c.finish.new.r in
    let psw = c.psw-psw.result in
    let after = c.retire_at_once.new.self in
    let fetches = rw (← c.stands.ensures.state) at (c.if-not-stands.ensures.fetched refl) in
    let sixteen : length r ≡ 16 = omega (arith, c.told-r) in
    let read = rw (c.mapped-space.ensures.memory) at c.in_ok-byte.ensures in
    let plans = c.requires.form (known_space m.memory ks) r psw c.in_ok-byte.byte sixteen read in
    let done : outcome (known_space m.memory ks) (planned d r (psw_of m.world)) ≡ Ok (quietly q psw) =
    subst (λ (k : ℕ). outcome (known_space m.memory ks) (planned d r k) ≡ Ok (quietly q psw)) c.psw-psw.ensures (plans ∙ ap (λ (z : List ℕ). Ok (quietly z psw)) (sym c.finish.ensures.registers)) in (
      c.finish.ensures.sum,
      λ k. rw (← c.stands.ensures.state) (runs_on k (with_registers r m) (with_registers q after)
          (found_steps m after ks r d (quietly q psw) c.mapped-space.ensures.known (c.if-not-stands.ensures.planned refl) fetches done refl c.retire_at_once.ensures)),
    )
