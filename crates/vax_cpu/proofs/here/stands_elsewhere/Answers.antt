use Rattle.vax_cpu.proofs.here.stands_elsewhere.Goals as goal

pub returns-clause-fetched : goal.returns-clause-fetched
returns-clause-fetched c = λ e. rw (c.mapped.ensures.memory, c.world.ensures, c.go_to.ensures) at (c.has_known.ensures.fetched e)
