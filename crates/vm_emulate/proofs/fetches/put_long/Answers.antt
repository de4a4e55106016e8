use Rattle.std.proofs.Common.{◌*◌, sym, subst}
use Rattle.vm_emulate.proofs.Fetching.{bytes_inside}
use Rattle.vm_exception.specs.Wrote.{AreHomes}
use Rattle.vm_emulate.proofs.fetches.put_long.Goals as goal

pub put_homes-requires-clause-homes : goal.put_homes-requires-clause-homes
put_homes-requires-clause-homes g c =
    subst (AreHomes (512 * c.args.s.now.pages)) (sym c.homes_of-homes.ensures) (bytes_inside (512 * c.args.s.now.pages) c.args.long c.args.places c.requires.inside)
