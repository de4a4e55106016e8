use Rattle.std.proofs.Common.{◌∙◌, sym}
use Rattle.vm_emulate.proofs.Changing.{change_done, change_undone}
use Rattle.vm_emulate.proofs.changes.change_mode.Goals as goal

pub returns-then-not-is_done : goal.returns-then-not-is_done
returns-then-not-is_done g c =
    change_undone (g.H.Hardware.machine c.args.machine.now) (g.H.Hardware.machine c.enter-result.new.machine) c.args.s.now c.enter-result.new.s c.registers_after-g.result c.args.g.now c.enter-result.new.g c.args.t.now c.args.to c.enter-result.result
    (sym c.on_interrupt_stack.ensures ∙ c.if-on_interrupt_stack.false) c.registers_after-g.ensures.registers c.registers_after-g.ensures.pc c.enter-result.ensures
    (sym c.is_done.ensures ∙ c.if-not-is_done.true)

pub returns-else-not-is_done : goal.returns-else-not-is_done
returns-else-not-is_done g c =
    change_done (g.H.Hardware.machine c.args.machine.now) (g.H.Hardware.machine c.enter-result.new.machine) c.args.s.now c.enter-result.new.s c.registers_after-g.result c.args.g.now c.enter-result.new.g c.args.t.now c.args.to c.enter-result.result
    (sym c.on_interrupt_stack.ensures ∙ c.if-on_interrupt_stack.false) c.registers_after-g.ensures.registers c.registers_after-g.ensures.pc c.enter-result.ensures
    (sym c.is_done.ensures ∙ c.if-not-is_done.false)
