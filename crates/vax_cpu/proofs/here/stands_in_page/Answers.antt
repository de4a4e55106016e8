use Rattle.vax_cpu.proofs.here.stands_in_page.Goals as goal

pub has_short-requires-clause-there : goal.has_short-requires-clause-there
has_short-requires-clause-there c = rw (c.memory.ensures.value, c.world.ensures) c.in-Some.ensures.is

pub returns-in-Some-clause-fetched : goal.returns-in-Some-clause-fetched
returns-in-Some-clause-fetched c = λ e. rw (c.memory.ensures.value, c.world.ensures) at (c.has_short.ensures.fetched e)
