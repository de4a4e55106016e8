use Rattle.std.proofs.Common.{◌≡◌, ◌∙◌, ap, subst}
use Rattle.std.specs.Prelude.{IfSome}
use Rattle.sys_system.specs.Watched.{DescribesStep}
use Rattle.sys_trace.proofs.Turns.{given_first, step_made}
use Rattle.sys_trace.specs.Held.{IsBefore}
use Rattle.vm_guest.specs.Kept.{guest_in}
use Rattle.vm_state.specs.State.{Guest, state_of}
use Rattle.sys_trace.proofs.tracing.trace_step.Goals as goal

pub returns-clause-line : goal.returns-clause-line
returns-clause-line g c h here =
    let memory = (g.H.Hardware.machine c.args.machine.now).memory in
    let watched = c.step-watched.result in
    let is : guest_in memory c.guest.result.now ≡ h = given_first memory c.args.system.now.guests c.guest.result.now h c.guest.ensures here in
    let before : IsBefore h c.of-before.result = subst (λ (x : Guest). IsBefore x c.of-before.result) is c.of-before.ensures in
    let tells : DescribesStep h watched = subst (λ o. IfSome o (λ x. DescribesStep x watched)) here c.step-watched.ensures.tells in
    let made = step_made _ _ _ _ _ _ c.guest-2.result.now h c.step-watched.ensures.takes here c.guest-2.ensures in
    c.step_line.ensures h before tells (ap state_of c.state.ensures ∙ ap (λ (x : Guest). x.state) made)
