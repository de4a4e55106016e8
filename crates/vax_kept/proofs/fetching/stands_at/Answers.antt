use Rattle.std.proofs.Common.{length, take, ◌∙◌, arith}
use Rattle.std.proofs.lemmas.List.{get_or-take, length-take}
use Rattle.vax_kept.proofs.Spelled.{stands}
use Rattle.vax_kept.proofs.fetching.stands_at.Goals as goal

pub returns : goal.returns
returns c = λ e i h.
    let k = c.from-length.result in
    let bytes = c.args.kept.now.bytes in
    stands (length (take k bytes)) c.args.place c.args.memory.now (take k bytes) (c.has_all.ensures e) i (omega (arith, length-take k bytes, c.args.kept.now.sized, c.from-length.ensures, c.requires.length, h))
    ∙ get_or-take k bytes i 0 (omega (arith, c.from-length.ensures, h))
