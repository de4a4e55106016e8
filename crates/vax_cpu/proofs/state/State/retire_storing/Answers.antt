use Rattle.std.proofs.Common.{◌≡◌, ◌*◌, ℕ, List, length, refl, sym, ◌∙◌, subst, ap}
use Rattle.std.proofs.lemmas.List.{with_items_is}
use Rattle.vax_hw.specs.Machine.{machine_tables}
use Rattle.vax_paged.specs.Known.{AreAllKnown}
use Rattle.vax_cpu.proofs.state.State.retire_storing.Goals as goal

pub returns : goal.returns
returns c =
    let long : length c.store_at.new.memory ≡ c.self.inside.memory.len = c.store_at.auto.memory ∙ c.deref_mut.ensures.len in
    c.retire_at_once.ensures ∙ rw (← c.self.view_is, with_items_is c.self.inside.memory c.store_at.new.memory long, c.store_at.ensures.memory, c.deref_mut.ensures.value) refl

pub store_at-requires-clause-known : goal.store_at-requires-clause-known
store_at-requires-clause-known c =
    let (size, some, most, known) = c.self.invariant in
    subst (λ (xs : List ℕ). AreAllKnown xs (machine_tables c.self.inside.world) c.self.inside.known) (sym c.deref_mut.ensures.value) known

pub invariant_of-self : goal.invariant_of-self
invariant_of-self c =
    let (size, some, most, known) = c.self.invariant in
    let long : length c.store_at.new.memory ≡ c.self.inside.memory.len = c.store_at.auto.memory ∙ c.deref_mut.ensures.len in
    let fits : length c.store_at.new.memory ≡ 512 * c.self.inside.pages = c.store_at.auto.memory ∙ ap (length {A = ℕ}) c.deref_mut.ensures.value ∙ size in
    rw (with_items_is c.self.inside.memory c.store_at.new.memory long) (fits, some, most, c.store_at.ensures.known)
