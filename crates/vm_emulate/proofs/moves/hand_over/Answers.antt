use Rattle.std.proofs.Common.{◌∙◌, ◌*◌, arith, subst, sym}
use Rattle.vm_emulate.proofs.Writing.{IsProperPacket, proper_packet}
use Rattle.vm_state.specs.State.{state_of}
use Rattle.vm_emulate.proofs.moves.hand_over.Goals as goal

pub overflow_add-packet : goal.overflow_add-packet
overflow_add-packet g c =
    let p = subst (IsProperPacket (512 * c.args.g.now.pages) c.args.packet) (sym c.accept.ensures.is ∙ c.in-Busy.is) (proper_packet (512 * c.args.g.now.pages) (state_of c.args.g.now) c.args.packet) in
    omega (arith, p.1, c.requires.pages, c.requires.keeps.fits.small)

pub store_long-requires-clause-aligned : goal.store_long-requires-clause-aligned
store_long-requires-clause-aligned g c =
    let p = subst (IsProperPacket (512 * c.args.g.now.pages) c.args.packet) (sym c.accept.ensures.is ∙ c.in-Busy.is) (proper_packet (512 * c.args.g.now.pages) (state_of c.args.g.now) c.args.packet) in
    omega (arith, p.0)

pub store_long-requires-clause-inside : goal.store_long-requires-clause-inside
store_long-requires-clause-inside g c =
    let p = subst (IsProperPacket (512 * c.args.g.now.pages) c.args.packet) (sym c.accept.ensures.is ∙ c.in-Busy.is) (proper_packet (512 * c.args.g.now.pages) (state_of c.args.g.now) c.args.packet) in
    omega (arith, p.1, c.requires.pages)
