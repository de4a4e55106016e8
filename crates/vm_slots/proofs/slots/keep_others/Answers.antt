use Rattle.std.proofs.Common.{◌≡◌, rules, ap, ◌∙◌, not, take}
use Rattle.arrayvec.proofs.ArrayVecLemmas.{filter-from_retain}
use Rattle.vm_slots.specs.Held.{is_same, without}
use Rattle.vm_slots.proofs.slots.keep_others.Goals as goal

pub returns-clause-stay : goal.returns-clause-stay
returns-clause-stay c =
    let others : c.retain.new.self.items ≡ without c.args.c.now c.args.held.now.items =
    filter-from_retain _ (λ h. not (is_same c.args.c.now h.0)) _ (λ x b f' y called. search rules) _ _ c.retain.ensures.filtered in
    c.truncate.ensures.items ∙ ap (take 3) others

pub returns-clause-four : goal.returns-clause-four
returns-clause-four c =
    let others : c.retain.new.self.items ≡ without c.args.c.now c.args.held.now.items =
    filter-from_retain _ (λ h. not (is_same c.args.c.now h.0)) _ (λ x b f' y called. search rules) _ _ c.retain.ensures.filtered in
    rw (← others) c.is_full-are_four.ensures.value
