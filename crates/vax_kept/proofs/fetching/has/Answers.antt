use Rattle.std.proofs.Common.{ap, sym, arith}
use Rattle.vax_table.specs.Spelling.{view}
use Rattle.vax_kept.specs.Fetched.{exits}
use Rattle.vax_arch.specs.declared.mode.Intent.TheVariants.{Read}
use Rattle.vax_paged.proofs.InPage.{placed_ok}
use Rattle.vax_kept.proofs.Spelled.{kept_formed, kept_there}
use Rattle.vax_kept.proofs.fetching.has.Goals as goal

pub returns-clause-fetched : goal.returns-clause-fetched
returns-clause-fetched c = λ e.
    let n = c.args.kept.now.prepared.decoded.length in
    let bytes = c.args.kept.now.bytes in
    let page = c.is_in_page.ensures (c.if-not-is_in_page.false) in
    ap exits (sym (kept_there c.args.space.now.memory.now c.args.space.now.world.now c.args.pc c.args.place n bytes (view c.args.kept.now.prepared.decoded) (omega arith)
    (omega (arith, page.0)) (omega (arith, page.1, c.args.kept.now.sized)) (placed_ok Read c.args.pc c.args.place _ c.requires.there)
    (c.stands_at.ensures e) c.args.kept.now.small c.args.kept.now.spelled))

pub returns-clause-formed : goal.returns-clause-formed
returns-clause-formed c = λ e. kept_formed c.args.kept.now.prepared.decoded.length c.args.kept.now.bytes (view c.args.kept.now.prepared.decoded) c.args.kept.now.small c.args.kept.now.spelled
