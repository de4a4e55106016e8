use Rattle.std.proofs.Common.{◌∙◌, ap, sym, subst, []}
use Rattle.vm_shadow.specs.Shadowed.{Keeps, Shadowed}
use Rattle.vm_shadow.specs.StandsFor.{TakesSlot, is_full_for, staying}
use Rattle.vm_shadow.proofs.Switching.{switch_all, switch_seen, switch_told}
use Rattle.vm_state.specs.State.{tables_of}
use Rattle.vm_state.specs.Touches.{is_remapped}
use Rattle.vm_shadow.proofs.shadow.Shadow.switch.Goals as goal

pub returns : goal.returns
returns g c =
    let before = g.H.Hardware.machine c.args.machine.now in
    let after = g.H.Hardware.machine c.drop_entries.new.machine in
    let own_context = c.context_of-context.ensures in
    switch_seen c.args.g.now before after _ c.args.self.now _ c.self.view_is (switch_told c.args.g.now before after _ c.context_of-context.result c.take_slot-taken.result.slot c.take_slot-taken.new.held c.drop_entries.new.self own_context
    (switch_all c.args.g.now before after _ c.take_slot-taken.new.held c.take_slot-taken.result.slot _ _ c.take_slot-taken.result.evicted c.is_remapped-remapped.result c.drop_entries.new.self
    (subst (Keeps [] [] before.memory) (sym c.self.view_is) c.requires.keeps)
    (ap (λ (s : Shadowed). s.pages) c.self.view_is ∙ c.requires.pages) (ap (λ (s : Shadowed). s.base) c.self.view_is ∙ c.requires.base) c.requires.tables
    (c.is_remapped-remapped.ensures ∙ ap (λ (s : Shadowed). is_remapped s.told (tables_of c.args.g.now)) (sym c.self.view_is))
    (subst (λ x. TakesSlot x (staying c.is_remapped-remapped.result c.self.inside.held) c.take_slot-taken.new.held c.take_slot-taken.result.slot) own_context c.take_slot-taken.ensures.takes)
    (c.take_slot-taken.ensures.evicted ∙ ap (λ x. is_full_for x (staying c.is_remapped-remapped.result c.self.inside.held)) own_context)
    c.entries_that_go-first.ensures c.drop_entries.ensures))
