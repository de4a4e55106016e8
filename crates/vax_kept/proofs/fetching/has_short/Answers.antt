use Rattle.std.proofs.Common.{◌≤◌, ap, sym, arith}
use Rattle.vax_table.specs.Spelling.{view}
use Rattle.vax_kept.specs.Fetched.{exits}
use Rattle.vax_kept.proofs.Spelled.{kept_formed, kept_there}
use Rattle.vax_kept.proofs.fetching.has_short.Goals as goal

pub returns-clause-fetched : goal.returns-clause-fetched
returns-clause-fetched c = λ e.
    let kept = c.args.kept.now in
    let n = kept.prepared.decoded.length in
    let short : n ≤ 8 = c.requires.short in
    ap exits (sym (kept_there c.args.memory.now c.args.world.now c.args.pc c.args.place n kept.bytes (view kept.prepared.decoded) (omega arith)
    (omega (arith, c.requires.inside)) (omega (arith, short, kept.sized)) c.requires.there (λ i h. c.has_eight.ensures e i (omega (arith, short, h))) kept.small kept.spelled))

pub returns-clause-formed : goal.returns-clause-formed
returns-clause-formed c = kept_formed c.args.kept.now.prepared.decoded.length c.args.kept.now.bytes (view c.args.kept.now.prepared.decoded) c.args.kept.now.small c.args.kept.now.spelled
