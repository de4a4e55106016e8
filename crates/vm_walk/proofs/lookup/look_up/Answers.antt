use Rattle.std.proofs.Common.{◌*◌, subst, sym}
use Rattle.vax_arch.specs.WalkLaws.{IsInside}
use Rattle.vax_arch.proofs.Walks.{mapped_inside}
use Rattle.vm_walk.proofs.lookup.look_up.Goals as goal

pub returns-then-g-clause-inside : goal.returns-then-g-clause-inside
returns-then-g-clause-inside g c = subst (IsInside (512 * c.args.g.now.pages)) (sym c.mapped_entry.ensures) (mapped_inside _ _ _ _)
