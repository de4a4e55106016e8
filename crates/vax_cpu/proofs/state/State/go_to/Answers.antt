use Rattle.vax_hw.specs.Machine.{machine_tables}
use Rattle.vax_cpu.proofs.state.State.go_to.Goals as goal

pub invariant_of-self : goal.invariant_of-self
invariant_of-self c =
    let (size, some, most, known) = c.self.invariant in
    (size, some, most, c.go_to.ensures c.self.inside.memory.items (machine_tables c.self.inside.world) known)
