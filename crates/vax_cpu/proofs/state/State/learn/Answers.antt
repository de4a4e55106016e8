use Rattle.std.proofs.Common.{ℕ, List, sym, subst}
use Rattle.vax_arch.specs.Fields.{current_of}
use Rattle.vax_arch.specs.declared.mode.Mode.{Mode}
use Rattle.vax_hw.specs.Machine.{machine_tables}
use Rattle.vax_paged.specs.Known.{IsLearned}
use Rattle.vax_cpu.proofs.state.State.learn.Goals as goal

pub invariant_of-self : goal.invariant_of-self
invariant_of-self c =
    let (size, some, most, known) = c.self.invariant in
    let memory = c.self.inside.memory.items in
    let t = machine_tables c.self.inside.world in
    let told : IsLearned memory t (current_of c.self.inside.world.psl.0) c.in-Some.learned =
    subst (λ (xs : List ℕ). IsLearned xs t (current_of c.self.inside.world.psl.0) c.in-Some.learned) c.deref.ensures.value c.in-Some.ensures.learned in
    (size, some, most, c.learn.ensures memory t known (subst (λ (m : Mode). IsLearned memory t m c.in-Some.learned) (sym c.current.ensures) told))
