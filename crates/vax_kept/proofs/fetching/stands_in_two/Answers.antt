use Rattle.std.proofs.Common.{◌-◌, length, take, drop, ◌∙◌, arith, length-drop}
use Rattle.std.proofs.lemmas.List.{get_or-drop, get_or-take, length-take}
use Rattle.vax_kept.proofs.Spelled.{stands}
use Rattle.vax_kept.proofs.fetching.stands_in_two.Goals as goal

pub returns-then-has_all-clause-first : goal.returns-then-has_all-clause-first
returns-then-has_all-clause-first c = λ e i h.
    let n = c.args.first in
    let bytes = c.args.kept.now.bytes in
    stands (length (take n bytes)) c.args.places.0 c.args.memory.now (take n bytes) (c.has_all.ensures c.if-has_all.true) i (omega (arith, length-take n bytes, c.args.kept.now.sized, c.requires.parts, c.requires.length, h))
    ∙ get_or-take n bytes i 0 h

pub returns-then-has_all-clause-others : goal.returns-then-has_all-clause-others
returns-then-has_all-clause-others c = λ e i h.
    let n = c.args.first in
    let k = c.from-length.result - n in
    let rest = drop n c.args.kept.now.bytes in
    stands (length (take k rest)) c.args.places.1 c.args.memory.now (take k rest) (c.has_all-then-has_all.ensures e) i
    (omega (arith, length-take k rest, length-drop n c.args.kept.now.bytes, c.args.kept.now.sized, c.from-length.ensures, c.requires.parts, c.requires.length, h))
    ∙ get_or-take k rest i 0 (omega (arith, c.from-length.ensures, h)) ∙ get_or-drop n c.args.kept.now.bytes i 0
