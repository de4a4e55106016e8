use Rattle.std.proofs.Common.{◌≡◌, ◌+◌, ◌%◌, ◌<◌, ◌≤◌, ap, sym, arith}
use Rattle.vax_table.specs.Spelling.{view}
use Rattle.vax_kept.specs.Fetched.{exits}
use Rattle.vax_arch.specs.declared.mode.Intent.TheVariants.{Read}
use Rattle.vax_paged.proofs.Knowing.{known_placed}
use Rattle.vax_kept.proofs.Spelled.{kept_formed, kept_there}
use Rattle.vax_kept.proofs.fetching.has_known.Goals as goal

pub returns-in-Some-clause-fetched : goal.returns-in-Some-clause-fetched
returns-in-Some-clause-fetched c = λ e.
    let n = c.args.kept.now.prepared.decoded.length in
    let bytes = c.args.kept.now.bytes in
    let inside : c.args.pc % 512 < c.args.kept.now.end = c.if-kept-pc.false in
    let some : 0 < c.args.kept.now.end = omega (arith, inside) in
    let whole : c.args.kept.now.end + n ≡ 513 = c.args.kept.now.whole some in
    let short : n ≤ 24 = c.args.kept.now.short some in
    ap exits (sym (kept_there c.args.space.now.memory.now c.args.world.now c.args.pc c.in-Some.place n bytes (view c.args.kept.now.prepared.decoded) (omega arith)
    (omega (arith, whole, inside)) (omega (arith, short, c.args.kept.now.sized)) (known_placed c.args.space.now.memory.now c.args.world.now c.args.space.now.known.now Read c.args.pc c.in-Some.place c.requires (sym c.in-Some.ensures.is))
    (c.stands_at.ensures e) c.args.kept.now.small c.args.kept.now.spelled))

pub returns-in-Some-clause-formed : goal.returns-in-Some-clause-formed
returns-in-Some-clause-formed c = λ e. kept_formed c.args.kept.now.prepared.decoded.length c.args.kept.now.bytes (view c.args.kept.now.prepared.decoded) c.args.kept.now.small c.args.kept.now.spelled
