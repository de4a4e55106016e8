use Rattle.std.proofs.Common.{◌*◌, ◌/◌, refl, sym}
use Rattle.vax_paged.specs.Known.{AreAllIn}
use Rattle.vax_paged.proofs.Here.{known_is, known_where_agrees}
use Rattle.vax_paged.proofs.modes.KnownPages.go_to.Goals as goal

pub returns : goal.returns
returns c = λ memory t all other agrees.
    let old = c.args.self.now in
    let known : AreAllIn other t old = all other agrees in
    let ks = c.of.ensures other t (known_where_agrees memory other t old all agrees) in record {
      kernel = known.kernel;
      executive = known.executive;
      supervisor = known.supervisor;
      user = known.user;
      here = known_is other t c.current.result c.of.result.now c.args.psl.0 c.args.va (record { start = 512 * (c.args.va / 512); high = c.high_of.result; first = c.in-Some.first }) ks c.current.ensures (sym c.in-Some.ensures.is) refl c.high_of.ensures;
    }
