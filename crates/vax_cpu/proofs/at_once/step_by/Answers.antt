use Rattle.std.proofs.Common.{◌≡◌, ℕ, [], length, refl, ap, ◌∙◌, subst, arith, slice_index}
use Rattle.std.proofs.lemmas.List.Elements.{All-nil}
use Rattle.vax_arch.specs.Fields.{current_of}
use Rattle.vax_hw.specs.Machine.{Machine, machine_tables, psw_of}
use Rattle.vax_table.specs.Spelling.{view}
use Rattle.vax_normal.specs.Normal.{done_at_once, quietly}
use Rattle.vax_paged.specs.Known.{IsKnownIn}
use Rattle.vax_cpu.specs.Completed.{completed_but_registers, with_registers}
use Rattle.vax_cpu.proofs.One.{at_once_steps, runs_on}
use Rattle.vax_cpu.proofs.at_once.step_by.Goals as goal

pub returns-in-Some : goal.returns-in-Some
returns-in-Some c =
    let m = c.args.state.now in
    let r = c.args.r.now in
    let q = c.carry_out.new.r in
    let n = c.args.normal.now in
    let d = view c.args.kept.now.prepared.decoded in
    let after = c.in-Some.after in
    let same : c.stands.new.state ≡ m = c.stands.ensures.state in
    let sixteen : length r ≡ 16 = omega (arith, c.told-r) in
    let done = subst (λ (psw : ℕ). done_at_once n r psw ≡ quietly q after.psw) (c.psw.ensures ∙ ap (λ (x : Machine). psw_of x.world) same) c.in-Some.ensures.1 in (
      c.in-Some.ensures.0,
      λ k. runs_on k (with_registers r m) (with_registers q c.retire_at_once.new.self)
          (at_once_steps m c.retire_at_once.new.self [] r q after.psw n d (All-nil (IsKnownIn m.memory (machine_tables m.world) (current_of m.world.psl.0))) (c.if-not-stands.ensures.planned refl)
          (c.if-not-stands.ensures.fetched refl) c.requires.normal sixteen done (c.retire_at_once.ensures ∙ ap (completed_but_registers (slice_index r 15) d.opcode (quietly q after.psw)) same)),
    )
