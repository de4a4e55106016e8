use Rattle.std.proofs.Common.{◌∙◌, sym}
use Rattle.vm_exception.proofs.Requests.{clock_due, no_device_due, receiver_due, transfer_due, transmitter_due}
use Rattle.vm_state.specs.State.{state_of}
use Rattle.vm_exception.proofs.pending.due.Goals as goal

pub returns-then-is_due : goal.returns-then-is_due
returns-then-is_due c = clock_due (state_of c.args.g.now) (sym c.is_due.ensures ∙ c.if-is_due.true)

pub returns-then-is_due-2 : goal.returns-then-is_due-2
returns-then-is_due-2 c = transfer_due (state_of c.args.g.now) (sym c.is_due.ensures ∙ c.if-is_due.false) (sym c.is_due-else-is_due.ensures ∙ c.if-is_due-2.true)

pub returns-then-is_due-3 : goal.returns-then-is_due-3
returns-then-is_due-3 c = receiver_due (state_of c.args.g.now) (sym c.is_due.ensures ∙ c.if-is_due.false) (sym c.is_due-else-is_due.ensures ∙ c.if-is_due-2.false) (sym c.is_due-else-is_due-2.ensures ∙ c.if-is_due-3.true)

pub returns-then-is_due-4 : goal.returns-then-is_due-4
returns-then-is_due-4 c = transmitter_due (state_of c.args.g.now) (sym c.is_due.ensures ∙ c.if-is_due.false) (sym c.is_due-else-is_due.ensures ∙ c.if-is_due-2.false) (sym c.is_due-else-is_due-2.ensures ∙ c.if-is_due-3.false) (sym c.is_due-else-is_due-3.ensures ∙ c.if-is_due-4.true)

pub returns-else-is_due-4 : goal.returns-else-is_due-4
returns-else-is_due-4 c = c.software_due.ensures ∙ no_device_due (state_of c.args.g.now) (sym c.is_due.ensures ∙ c.if-is_due.false) (sym c.is_due-else-is_due.ensures ∙ c.if-is_due-2.false) (sym c.is_due-else-is_due-2.ensures ∙ c.if-is_due-3.false) (sym c.is_due-else-is_due-3.ensures ∙ c.if-is_due-4.false)
