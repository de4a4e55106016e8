use Rattle.std.proofs.Common.{◌+◌, ◌-◌, ◌%◌, ◌^◌, ◌<◌, ◌≤◌, ap, sym, arith}
use Rattle.vax_table.specs.Spelling.{view}
use Rattle.vax_kept.specs.Fetched.{exits}
use Rattle.vax_arch.specs.declared.mode.Intent.TheVariants.{Read}
use Rattle.vax_paged.proofs.Knowing.{known_placed}
use Rattle.vax_kept.proofs.Spelled.{kept_formed, kept_over}
use Rattle.vax_kept.proofs.fetching.has_known_over.Goals as goal

pub returns-in-Some-place-clause-fetched : goal.returns-in-Some-place-clause-fetched
returns-in-Some-place-clause-fetched c = λ e.
    let n = c.args.kept.now.prepared.decoded.length in
    let bytes = c.args.kept.now.bytes in
    let first = 512 - c.args.pc % 512 in
    let some : 0 < c.args.kept.now.end = omega (arith, c.if-kept-eq0.false) in
    let short : n ≤ 24 = c.args.kept.now.short some in
    ap exits (sym (kept_over c.args.space.memory.now c.args.world.now c.args.pc c.in-Some.place c.in-Some-place.next first n bytes (view c.args.kept.now.prepared.decoded) (omega arith) (omega arith)
    short (omega (arith, short, c.args.kept.now.sized)) (known_placed c.args.space.memory.now c.args.world.now c.args.space.known.now Read c.args.pc c.in-Some.place c.requires (sym c.in-Some.ensures.is))
    (known_placed c.args.space.memory.now c.args.world.now c.args.space.known.now Read ((c.args.pc + first) % 2 ^ 32) c.in-Some-place.next c.requires (sym c.in-Some-place.ensures.is))
    (c.stands_in_two.ensures.first e) (c.stands_in_two.ensures.others e) c.args.kept.now.small c.args.kept.now.spelled))

pub returns-in-Some-place-clause-formed : goal.returns-in-Some-place-clause-formed
returns-in-Some-place-clause-formed c = λ e. kept_formed c.args.kept.now.prepared.decoded.length c.args.kept.now.bytes (view c.args.kept.now.prepared.decoded) c.args.kept.now.small c.args.kept.now.spelled
