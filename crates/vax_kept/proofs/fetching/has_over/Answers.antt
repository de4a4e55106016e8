use Rattle.std.proofs.Common.{◌+◌, ◌-◌, ◌%◌, ◌^◌, ◌≤◌, ap, sym, arith}
use Rattle.vax_table.specs.Spelling.{view}
use Rattle.vax_kept.specs.Fetched.{exits}
use Rattle.vax_arch.specs.declared.mode.Intent.TheVariants.{Read}
use Rattle.vax_paged.proofs.InPage.{placed_ok}
use Rattle.vax_kept.proofs.Spelled.{kept_formed, kept_over}
use Rattle.vax_kept.proofs.fetching.has_over.Goals as goal

pub returns-in-Ok-clause-fetched : goal.returns-in-Ok-clause-fetched
returns-in-Ok-clause-fetched c = λ e.
    let n = c.args.kept.now.prepared.decoded.length in
    let bytes = c.args.kept.now.bytes in
    let first = 512 - c.args.pc % 512 in
    let short : n ≤ 24 = omega (arith, c.from-length.ensures, c.if-length-gt24.false) in
    ap exits (sym (kept_over c.args.space.now.memory.now c.args.space.now.world.now c.args.pc c.args.place c.in-Ok.next first n bytes (view c.args.kept.now.prepared.decoded) (omega arith) (omega arith)
    short (omega (arith, short, c.args.kept.now.sized)) (placed_ok Read c.args.pc c.args.place _ c.requires.there) (placed_ok Read ((c.args.pc + first) % 2 ^ 32) c.in-Ok.next _ c.in-Ok.ensures.is)
    (c.stands_in_two.ensures.first e) (c.stands_in_two.ensures.others e) c.args.kept.now.small c.args.kept.now.spelled))

pub returns-in-Ok-clause-formed : goal.returns-in-Ok-clause-formed
returns-in-Ok-clause-formed c = λ e. kept_formed c.args.kept.now.prepared.decoded.length c.args.kept.now.bytes (view c.args.kept.now.prepared.decoded) c.args.kept.now.small c.args.kept.now.spelled
