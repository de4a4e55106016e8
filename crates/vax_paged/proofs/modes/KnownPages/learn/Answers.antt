use Rattle.vax_paged.specs.Known.{Agrees, AreAllIn}
use Rattle.vax_paged.proofs.Watching.{agrees_before, all_same, long_same}
use Rattle.vax_paged.proofs.modes.KnownPages.learn.Goals as goal

pub returns : goal.returns
returns c = λ memory t all learned other agrees.
    let start = c.args.self.now in
    let first = c.watch.new.self in
    let both = c.watch-2.new.self in
    let after : Agrees both memory other = agrees_before memory other both c.put.new.self c.put.ensures.marks c.put.ensures.mark agrees in
    let between : Agrees first memory other = λ at holds. after at (c.watch-2.ensures.more at holds) in
    let known : AreAllIn other t start = all other (λ at holds. between at (c.watch.ensures.more at holds)) in
    c.put.ensures.known other t (all_same other t first both c.watch-2.ensures.same (all_same other t start first c.watch.ensures.same known))
    (learned other (long_same first memory other c.args.learned.table between c.watch.ensures.watched) (long_same both memory other c.args.learned.place after c.watch-2.ensures.watched))
