use Rattle.std.proofs.Common.{◌∙◌, ap, Ok, Result, subst, sym}
use Rattle.vm_emulate.specs.Moved.{IsStatusSet, MovesToRegister}
use Rattle.vm_emulate.proofs.MovingTo.{can_switch, is_bad, is_busy, is_done, is_queued, is_remapped_by, is_shown}
use Rattle.vm_state.specs.Packets.{after_accept}
use Rattle.vm_state.specs.State.{state_of}
use Rattle.vm_state.specs.declared.register.RegisterEffect.{RegisterEffect}
use Rattle.vm_state.specs.declared.register.ReservedOperand.{ReservedOperand}
use Rattle.vm_state.specs.declared.transfer.Accept.{Accept}
use Rattle.vm_emulate.proofs.moves.move_to_register.Goals as goal

pub switch-requires-clause-tables : goal.switch-requires-clause-tables
switch-requires-clause-tables g c =
    can_switch (g.H.Hardware.machine c.args.machine.now) c.args.s.now c.args.g.now c.args.t.now c.requires c.write_register.new.g c.in-Ok.effect
    (subst (λ (x : Result RegisterEffect ReservedOperand). MovesToRegister c.args.g.now c.args.t.now x c.write_register.new.g) c.in-Ok.is c.write_register.ensures.is) c.write_register.ensures.place

pub returns-in-Done-clause-senses : goal.returns-in-Done-clause-senses
returns-in-Done-clause-senses g c =
    is_done (g.H.Hardware.machine c.args.machine.now) c.args.s.now c.args.g.now c.args.t.now c.requires c.write_register.new.g
    (subst (λ (x : Result RegisterEffect ReservedOperand). MovesToRegister c.args.g.now c.args.t.now x c.write_register.new.g) (c.in-Ok.is ∙ ap Ok c.in-Done.is) c.write_register.ensures.is) c.write_register.ensures.place

pub returns-in-Remap-clause-senses : goal.returns-in-Remap-clause-senses
returns-in-Remap-clause-senses g c =
    is_remapped_by (g.H.Hardware.machine c.args.machine.now) c.args.s.now c.args.g.now c.args.t.now c.requires c.write_register.new.g (g.H.Hardware.machine c.switch.new.machine) c.switch.new.self
    (subst (λ (x : Result RegisterEffect ReservedOperand). MovesToRegister c.args.g.now c.args.t.now x c.write_register.new.g) (c.in-Ok.is ∙ ap Ok c.in-Remap.is) c.write_register.ensures.is) c.write_register.ensures.place c.switch.ensures

pub returns-in-Show-clause-senses : goal.returns-in-Show-clause-senses
returns-in-Show-clause-senses g c =
    is_shown (g.H.Hardware.machine c.args.machine.now) c.args.s.now c.args.g.now c.args.t.now c.requires c.in-Show.byte c.write_register.new.g
    (subst (λ (x : Result RegisterEffect ReservedOperand). MovesToRegister c.args.g.now c.args.t.now x c.write_register.new.g) (c.in-Ok.is ∙ ap Ok c.in-Show.is) c.write_register.ensures.is) c.write_register.ensures.place

pub returns-in-Queued-clause-senses : goal.returns-in-Queued-clause-senses
returns-in-Queued-clause-senses g c =
    let m = g.H.Hardware.machine c.args.machine.now in
    let m2 = g.H.Hardware.machine c.hand_over.new.machine in
    let wrote = subst (λ (x : Accept). IsStatusSet x c.in-Kcall.packet m c.args.s.now m2 c.hand_over.new.s) c.in-Queued.is c.hand_over.ensures.status in
    is_queued m c.args.s.now c.args.g.now c.args.t.now c.requires c.in-Kcall.packet c.write_register.new.g c.hand_over.new.g m2 c.hand_over.new.s
    (subst (λ (x : Result RegisterEffect ReservedOperand). MovesToRegister c.args.g.now c.args.t.now x c.write_register.new.g) (c.in-Ok.is ∙ ap Ok c.in-Kcall.is) c.write_register.ensures.is) c.write_register.ensures.place
    (sym c.in-Queued.is ∙ c.hand_over.ensures.result) (c.hand_over.ensures.state ∙ ap (λ (x : Accept). after_accept x c.in-Kcall.packet (state_of c.write_register.new.g)) c.in-Queued.is) c.hand_over.ensures.place wrote.0 wrote.1

pub returns-in-Busy-clause-senses : goal.returns-in-Busy-clause-senses
returns-in-Busy-clause-senses g c =
    let m = g.H.Hardware.machine c.args.machine.now in
    let m2 = g.H.Hardware.machine c.hand_over.new.machine in
    let wrote = subst (λ (x : Accept). IsStatusSet x c.in-Kcall.packet m c.args.s.now m2 c.hand_over.new.s) c.in-Busy.is c.hand_over.ensures.status in
    is_busy m c.args.s.now c.args.g.now c.args.t.now c.requires c.in-Kcall.packet c.write_register.new.g c.hand_over.new.g m2 c.hand_over.new.s
    (subst (λ (x : Result RegisterEffect ReservedOperand). MovesToRegister c.args.g.now c.args.t.now x c.write_register.new.g) (c.in-Ok.is ∙ ap Ok c.in-Kcall.is) c.write_register.ensures.is) c.write_register.ensures.place c.hand_over.ensures.place
    (sym c.in-Busy.is ∙ c.hand_over.ensures.result) (c.hand_over.ensures.state ∙ ap (λ (x : Accept). after_accept x c.in-Kcall.packet (state_of c.write_register.new.g)) c.in-Busy.is) wrote

pub returns-in-BadPacket-clause-senses : goal.returns-in-BadPacket-clause-senses
returns-in-BadPacket-clause-senses g c =
    let m = g.H.Hardware.machine c.args.machine.now in
    let m2 = g.H.Hardware.machine c.hand_over.new.machine in
    let wrote = subst (λ (x : Accept). IsStatusSet x c.in-Kcall.packet m c.args.s.now m2 c.hand_over.new.s) c.in-BadPacket.is c.hand_over.ensures.status in
    is_bad m c.args.s.now c.args.g.now c.args.t.now c.requires c.in-Kcall.packet c.write_register.new.g c.hand_over.new.g m2 c.hand_over.new.s
    (subst (λ (x : Result RegisterEffect ReservedOperand). MovesToRegister c.args.g.now c.args.t.now x c.write_register.new.g) (c.in-Ok.is ∙ ap Ok c.in-Kcall.is) c.write_register.ensures.is) c.write_register.ensures.place c.hand_over.ensures.place
    (sym c.in-BadPacket.is ∙ c.hand_over.ensures.result) (c.hand_over.ensures.state ∙ ap (λ (x : Accept). after_accept x c.in-Kcall.packet (state_of c.write_register.new.g)) c.in-BadPacket.is) wrote.0 wrote.1
