use Rattle.std.proofs.Common.{arith, ◌∙◌, ap, sym, take}
use Rattle.std.proofs.lemmas.List.{take_all, take_more}
use Rattle.vax_table.specs.Operand.{minus}
use Rattle.vm_state.specs.Pushes.{pointer_after}
use Rattle.vm_exception.proofs.Pushing.{pointer_more}
use Rattle.vm_exception.proofs.attempts.pointer_after.Goals as goal

pub loop-preserved : goal.loop-preserved
loop-preserved c =
    let n = c.loop.index in
    ap (λ x. minus x 4) c.loop.invariant ∙ sym (ap (pointer_after c.args.sp) (take_more c.args.longs.now n 0 c.loop-test.true) ∙ pointer_more c.args.sp (take n c.args.longs.now) _)

pub returns : goal.returns
returns c = c.loop.invariant ∙ ap (pointer_after c.args.sp) (take_all c.loop.index c.args.longs.now (omega (arith, c.loop-test.false)))
