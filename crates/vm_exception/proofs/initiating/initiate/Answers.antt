use Rattle.std.proofs.Common.{◌∙◌, ap, sym, subst}
use Rattle.vm_exception.specs.Attempted.{Attempts}
use Rattle.vm_exception.specs.Initiated.{Initiates}
use Rattle.vm_exception.specs.declared.attempts.Attempt.TheVariants.{StackFaulty}
use Rattle.vm_exception.specs.declared.initiated.Initiated.{Initiated}
use Rattle.vm_exception.proofs.Arriving.{bad_kernel_stack, both_stacks, halts, halts_then, interrupt_stack, taken}
use Rattle.vm_state.specs.declared.exception.Exc.TheVariants.{KernelStack}
use Rattle.vm_exception.proofs.initiating.initiate.Goals as goal

pub returns-in-Arrives : goal.returns-in-Arrives
returns-in-Arrives g c = taken c.args.e (g.H.Hardware.machine c.args.machine.now) (g.H.Hardware.machine c.take.new.machine) c.args.s.now c.take.new.s c.args.g.now c.take.new.g (subst (λ r. Attempts c.args.e (g.H.Hardware.machine c.args.machine.now) c.args.s.now c.args.g.now r (g.H.Hardware.machine c.take.new.machine) c.take.new.s c.take.new.g) (c.in-Arrives.is) c.take.ensures)

pub returns-in-StackFaulty-true : goal.returns-in-StackFaulty-true
returns-in-StackFaulty-true g c = subst (λ (r : Initiated). Initiates c.args.e (g.H.Hardware.machine c.args.machine.now) c.args.s.now c.args.g.now r (g.H.Hardware.machine c.take.new.machine) c.take.new.s c.stop.new.g) (sym c.stop.ensures.result) (interrupt_stack c.args.e (g.H.Hardware.machine c.args.machine.now) (g.H.Hardware.machine c.take.new.machine) (g.H.Hardware.machine c.take.new.machine) c.args.s.now c.take.new.s c.take.new.s c.args.g.now c.take.new.g c.take.new.g c.stop.new.g c.requires.stands (subst (λ r. Attempts c.args.e (g.H.Hardware.machine c.args.machine.now) c.args.s.now c.args.g.now r (g.H.Hardware.machine c.take.new.machine) c.take.new.s c.take.new.g) (c.in-StackFaulty-true.is ∙ ap StackFaulty c.in-StackFaulty-true.is_interrupt_stack-test) c.take.ensures) c.stop.ensures.state c.stop.ensures.place)

pub returns-in-Halts : goal.returns-in-Halts
returns-in-Halts g c = subst (λ (r : Initiated). Initiates c.args.e (g.H.Hardware.machine c.args.machine.now) c.args.s.now c.args.g.now r (g.H.Hardware.machine c.take.new.machine) c.take.new.s c.stop-in-Halts.new.g) (sym c.stop-in-Halts.ensures.result) (halts c.args.e (g.H.Hardware.machine c.args.machine.now) (g.H.Hardware.machine c.take.new.machine) (g.H.Hardware.machine c.take.new.machine) c.args.s.now c.take.new.s c.take.new.s c.args.g.now c.take.new.g c.take.new.g c.stop-in-Halts.new.g c.requires.stands c.in-Halts.code (subst (λ r. Attempts c.args.e (g.H.Hardware.machine c.args.machine.now) c.args.s.now c.args.g.now r (g.H.Hardware.machine c.take.new.machine) c.take.new.s c.take.new.g) (c.in-Halts.is) c.take.ensures) c.stop-in-Halts.ensures.state c.stop-in-Halts.ensures.place)

pub returns-in-Arrives-take : goal.returns-in-Arrives-take
returns-in-Arrives-take g c = bad_kernel_stack c.args.e (g.H.Hardware.machine c.args.machine.now) (g.H.Hardware.machine c.take.new.machine) (g.H.Hardware.machine c.take-in-StackFaulty-false.new.machine) c.args.s.now c.take.new.s c.take-in-StackFaulty-false.new.s c.args.g.now c.take.new.g c.take-in-StackFaulty-false.new.g c.args.g.now c.requires.stands (subst (λ r. Attempts c.args.e (g.H.Hardware.machine c.args.machine.now) c.args.s.now c.args.g.now r (g.H.Hardware.machine c.take.new.machine) c.take.new.s c.take.new.g) (c.in-StackFaulty-false.is ∙ ap StackFaulty c.in-StackFaulty-false.is_interrupt_stack-test) c.take.ensures) (subst (λ r. Attempts KernelStack (g.H.Hardware.machine c.take.new.machine) c.take.new.s c.take.new.g r (g.H.Hardware.machine c.take-in-StackFaulty-false.new.machine) c.take-in-StackFaulty-false.new.s c.take-in-StackFaulty-false.new.g) (c.in-Arrives-take.is) c.take-in-StackFaulty-false.ensures)

pub returns-in-StackFaulty : goal.returns-in-StackFaulty
returns-in-StackFaulty g c = subst (λ (r : Initiated). Initiates c.args.e (g.H.Hardware.machine c.args.machine.now) c.args.s.now c.args.g.now r (g.H.Hardware.machine c.take-in-StackFaulty-false.new.machine) c.take-in-StackFaulty-false.new.s c.stop-in-StackFaulty.new.g) (sym c.stop-in-StackFaulty.ensures.result) (both_stacks c.args.e (g.H.Hardware.machine c.args.machine.now) (g.H.Hardware.machine c.take.new.machine) (g.H.Hardware.machine c.take-in-StackFaulty-false.new.machine) c.args.s.now c.take.new.s c.take-in-StackFaulty-false.new.s c.args.g.now c.take.new.g c.take-in-StackFaulty-false.new.g c.stop-in-StackFaulty.new.g c.requires.stands _ (subst (λ r. Attempts c.args.e (g.H.Hardware.machine c.args.machine.now) c.args.s.now c.args.g.now r (g.H.Hardware.machine c.take.new.machine) c.take.new.s c.take.new.g) (c.in-StackFaulty-false.is ∙ ap StackFaulty c.in-StackFaulty-false.is_interrupt_stack-test) c.take.ensures) (subst (λ r. Attempts KernelStack (g.H.Hardware.machine c.take.new.machine) c.take.new.s c.take.new.g r (g.H.Hardware.machine c.take-in-StackFaulty-false.new.machine) c.take-in-StackFaulty-false.new.s c.take-in-StackFaulty-false.new.g) (c.in-StackFaulty.is) c.take-in-StackFaulty-false.ensures) c.stop-in-StackFaulty.ensures.state c.stop-in-StackFaulty.ensures.place)

pub returns-in-Halts-take : goal.returns-in-Halts-take
returns-in-Halts-take g c = subst (λ (r : Initiated). Initiates c.args.e (g.H.Hardware.machine c.args.machine.now) c.args.s.now c.args.g.now r (g.H.Hardware.machine c.take-in-StackFaulty-false.new.machine) c.take-in-StackFaulty-false.new.s c.stop-in-Halts-take.new.g) (sym c.stop-in-Halts-take.ensures.result) (halts_then c.args.e (g.H.Hardware.machine c.args.machine.now) (g.H.Hardware.machine c.take.new.machine) (g.H.Hardware.machine c.take-in-StackFaulty-false.new.machine) c.args.s.now c.take.new.s c.take-in-StackFaulty-false.new.s c.args.g.now c.take.new.g c.take-in-StackFaulty-false.new.g c.stop-in-Halts-take.new.g c.requires.stands c.in-Halts-take.code (subst (λ r. Attempts c.args.e (g.H.Hardware.machine c.args.machine.now) c.args.s.now c.args.g.now r (g.H.Hardware.machine c.take.new.machine) c.take.new.s c.take.new.g) (c.in-StackFaulty-false.is ∙ ap StackFaulty c.in-StackFaulty-false.is_interrupt_stack-test) c.take.ensures) (subst (λ r. Attempts KernelStack (g.H.Hardware.machine c.take.new.machine) c.take.new.s c.take.new.g r (g.H.Hardware.machine c.take-in-StackFaulty-false.new.machine) c.take-in-StackFaulty-false.new.s c.take-in-StackFaulty-false.new.g) (c.in-Halts-take.is) c.take-in-StackFaulty-false.ensures) c.stop-in-Halts-take.ensures.state c.stop-in-Halts-take.ensures.place)
