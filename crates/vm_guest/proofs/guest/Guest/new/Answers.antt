use Rattle.std.proofs.lemmas.Result.{IfOk-weaker}
use Rattle.vm_guest.proofs.Becoming.{resumed_new}
use Rattle.vm_guest.specs.Kept.{IsNew, IsResumed}
use Rattle.vm_guest.proofs.guest.Guest.new.Goals as goal

pub returns-clause-ok : goal.returns-clause-ok
returns-clause-ok g c =
    let before = g.H.Hardware.machine c.args.machine.now in
    let after = g.H.Hardware.machine c.of_state.new.machine in
    let state = c.new-state.result in
    IfOk-weaker c.of_state.result (IsResumed state c.args.tables before after) (IsNew c.args.pages c.args.base c.args.tables c.args.start c.args.modify_faults before after)
    (λ k. resumed_new c.args.pages c.args.base c.args.tables c.args.start c.args.modify_faults state before after k c.new-state.ensures.state c.new-state.ensures.place) c.of_state.ensures.ok
