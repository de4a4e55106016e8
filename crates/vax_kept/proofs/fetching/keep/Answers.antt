use Rattle.std.proofs.Common.{sym, subst}
use Rattle.vax_table.specs.Spelling.{IsWellFormed, view}
use Rattle.vax_table.specs.declared.decoded.Decoded.{Decoded}
use Rattle.vax_kept.proofs.fetching.keep.Goals as goal

pub normal_of-kept-requires : goal.normal_of-kept-requires
normal_of-kept-requires c = subst (λ (d : Decoded). IsWellFormed (view d)) (sym c.renew.ensures) c.requires.formed

pub in_memory_of-kept-requires : goal.in_memory_of-kept-requires
in_memory_of-kept-requires c = subst (λ (d : Decoded). IsWellFormed (view d)) (sym c.renew.ensures) c.requires.formed

pub rarer_of-kept-requires : goal.rarer_of-kept-requires
rarer_of-kept-requires c = subst (λ (d : Decoded). IsWellFormed (view d)) (sym c.renew.ensures) c.requires.formed
