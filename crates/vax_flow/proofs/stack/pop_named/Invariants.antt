use Rattle.std.proofs.Common.{◌≡◌, ◌-◌}
use Rattle.vax_table.specs.Interaction.{outcome}
use Rattle.vax_table.specs.Stack.{named_up, pop_all}
use Rattle.vax_flow.proofs.stack.pop_named.Given as goal

abbrev pub invariant-loop-n : goal.invariant-loop-n
invariant-loop-n g l = outcome (g.S.Space.space l.space) (pop_all (named_up (l.count - l.n) l.n l.mask) l.place) ≡ outcome (g.S.Space.space l.space) (pop_all (named_up l.count 0 l.mask) l.fn.place)
