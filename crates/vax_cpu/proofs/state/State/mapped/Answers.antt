use Rattle.std.proofs.Common.{subst}
use Rattle.vax_arch.specs.Fields.{current_of}
use Rattle.vax_arch.specs.declared.mode.Mode.{Mode}
use Rattle.vax_hw.specs.Machine.{Machine, machine_tables}
use Rattle.vax_paged.specs.Known.{AreKnownIn}
use Rattle.vax_cpu.proofs.state.State.mapped.Goals as goal

pub returns-clause-known : goal.returns-clause-known
returns-clause-known c =
    let (size, some, most, known) = c.self.invariant in
    let memory = c.self.inside.memory.items in
    let t = machine_tables c.self.inside.world in
    subst (λ (m : Machine). AreKnownIn m.memory (machine_tables m.world) (current_of m.world.psl.0) c.of.result.now) c.self.view_is
    (subst (λ (m : Mode). AreKnownIn memory t m c.of.result.now) c.current.ensures (c.of.ensures memory t known))
