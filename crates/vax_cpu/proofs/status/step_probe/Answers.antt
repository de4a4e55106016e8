use Rattle.std.proofs.Common.{◌≡◌, ◌+◌, ◌*◌, ◌/◌, ◌%◌, not, length, refl, ap, ◌∙◌, arith, slice_index}
use Rattle.vax_hw.specs.Machine.{psw_of}
use Rattle.vax_table.specs.Arithmetic.{bit_of}
use Rattle.vax_table.specs.Spelling.{view}
use Rattle.vax_normal.specs.Normal.{quietly}
use Rattle.vax_cpu.specs.Completed.{completed_but_registers, with_registers}
use Rattle.vax_cpu.proofs.One.{runs_on}
use Rattle.vax_cpu.proofs.StatusSteps.{probe_steps}
use Rattle.vax_cpu.proofs.status.step_probe.Goals as goal

pub returns : goal.returns
returns c =
    let m = c.args.state.now in
    let r = c.args.r.now in
    let q = c.go_on.new.r in
    let n = c.args.form.now in
    let d = view c.args.kept.now.prepared.decoded in
    let b = c.in_ok-is_accessible.is_accessible in
    let after = c.retire_at_once.new.self in
    let codes = c.probed_psw-psw.result in
    let same : c.stands_in_page.new.state ≡ m = c.stands_in_page.ensures.state in
    let sixteen : length r ≡ 16 = omega (arith, c.told-r) in
    let word : codes ≡ psw_of m.world / 16 * 16 + 4 * bit_of (not b) + psw_of m.world % 2 = rw (c.psw.ensures, same) at c.probed_psw-psw.ensures in
    let judges = rw (c.memory.ensures.value, c.world.ensures, same, c.value-mode.ensures, c.value-bytes.ensures, c.value.ensures) at c.in_ok-is_accessible.ensures in
    let retires = c.retire_at_once.ensures ∙ ap (completed_but_registers (slice_index r 15) d.opcode (quietly q codes)) same in
    let step = probe_steps m after r d n b codes c.requires.form sixteen (c.if-not-stands_in_page.ensures.fetched refl) judges word (rw c.go_on.ensures.registers at retires) in
    (c.go_on.ensures.sum, λ k. runs_on k (with_registers r m) (with_registers q after) (rw c.go_on.ensures.registers step))
