use Rattle.std.proofs.Common.{refl, subst}
use Rattle.vax_arch.specs.Walk.{Tables}
use Rattle.vax_hw.specs.Machine.{machine_tables}
use Rattle.vax_paged.specs.Known.{AreAllKnown}
use Rattle.vax_cpu.proofs.state.State.load.Goals as goal

pub invariant_of-self : goal.invariant_of-self
invariant_of-self c =
    let (size, some, most, known) = c.self.invariant in
    (size, some, most, subst (λ (t : Tables). AreAllKnown c.self.inside.memory.items t c.self.inside.known) (c.if-has_same_tables.ensures refl) known)

pub invariant_of-self-2 : goal.invariant_of-self-2
invariant_of-self-2 c =
    let (size, some, most, known) = c.self.invariant in
    (size, some, most, c.forget.ensures c.self.inside.memory.items (machine_tables c.args.w.now))
