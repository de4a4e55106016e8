use Rattle.std.proofs.Common.{◌≡◌, ◌*◌, ◌∙◌, length, ap, sym, arith}
use Rattle.std.proofs.lemmas.Bool.{ltb-false, ltb-true}
use Rattle.sys_store.specs.Blocks.{blocks_of, with_block}
use Rattle.sys_transfers.specs.Serves.{packet_of}
use Rattle.sys_transfers.proofs.Moving.{lie_inside, refuses, surely_written, write_moves, write_no_block, write_no_memory, write_not, write_nothing, writes_block}
use Rattle.vm_guest.specs.Kept.{guest_in}
use Rattle.vm_state.specs.Outside.{bytes_at}
use Rattle.sys_transfers.proofs.moves.write.Goals as goal

pub returns-in_default : goal.returns-in_default
returns-in_default g c = refuses 3 _ (packet_of c.args.p.now) c.args.volumes.now (g.H.Hardware.machine c.args.machine.now) c.args.guest.now c.requires.stands (write_nothing (512 * c.args.guest.now.state.pages) c.args.volumes.now c.args.unit (packet_of c.args.p.now) c.in_default.is)

pub returns-then-not-mount : goal.returns-then-not-mount
returns-then-not-mount g c = refuses 4 _ (packet_of c.args.p.now) c.args.volumes.now (g.H.Hardware.machine c.args.machine.now) c.args.guest.now c.requires.stands (write_not (512 * c.args.guest.now.state.pages) c.args.volumes.now c.args.unit (packet_of c.args.p.now) c.in-Some.mount c.in-Some.is c.if-not-mount.true)

pub returns-then-not-has_block : goal.returns-then-not-has_block
returns-then-not-has_block g c =
    let few = ltb-false c.args.p.now.block (length (blocks_of c.args.volumes.now c.in-Some.mount.volume)) (sym c.has_block.ensures ∙ c.if-not-has_block.true) in
    refuses 5 _ (packet_of c.args.p.now) c.args.volumes.now (g.H.Hardware.machine c.args.machine.now) c.args.guest.now c.requires.stands (write_no_block (512 * c.args.guest.now.state.pages) c.args.volumes.now c.args.unit (packet_of c.args.p.now) c.in-Some.mount c.in-Some.is c.if-not-mount.false few)

pub returns-then-is_outside : goal.returns-then-is_outside
returns-then-is_outside g c =
    let within = ltb-true c.args.p.now.block (length (blocks_of c.args.volumes.now c.in-Some.mount.volume)) (sym c.has_block.ensures ∙ c.if-not-has_block.false) in
    refuses 6 _ (packet_of c.args.p.now) c.args.volumes.now (g.H.Hardware.machine c.args.machine.now) c.args.guest.now c.requires.stands (write_no_memory (512 * c.args.guest.now.state.pages) c.args.volumes.now c.args.unit (packet_of c.args.p.now) c.in-Some.mount c.in-Some.is c.if-not-mount.false within (sym c.is_outside.ensures ∙ c.if-is_outside.true))

pub fetch_into-requires-clause-inside : goal.fetch_into-requires-clause-inside
fetch_into-requires-clause-inside g c = omega (arith, c.empty_block-bytes.ensures, lie_inside (512 * c.args.guest.now.state.pages) c.args.p.now.buffer 512 (sym c.is_outside.ensures ∙ c.if-is_outside.false))

pub returns : goal.returns
returns g c =
    let within = ltb-true c.args.p.now.block (length (blocks_of c.args.volumes.now c.in-Some.mount.volume)) (sym c.has_block.ensures ∙ c.if-not-has_block.false) in
    let read : c.fetch_into.new.bytes ≡ bytes_at (guest_in (g.H.Hardware.machine c.args.machine.now).memory c.args.guest.now) c.args.p.now.buffer 512 = c.fetch_into.ensures ∙ ap (λ n. bytes_at (guest_in (g.H.Hardware.machine c.args.machine.now).memory c.args.guest.now) c.args.p.now.buffer n) c.empty_block-bytes.ensures in
    let written = surely_written c.write_block.result c.args.volumes.now c.write_block.new.self c.in-Some.mount.volume c.args.p.now.block c.fetch_into.new.bytes within c.write_block.ensures.ok c.write_block.ensures.err in
    writes_block c.in-Some.mount.volume _ (packet_of c.args.p.now) c.args.volumes.now c.write_block.new.self (g.H.Hardware.machine c.args.machine.now) c.args.guest.now c.requires.stands (write_moves (512 * c.args.guest.now.state.pages) c.args.volumes.now c.args.unit (packet_of c.args.p.now) c.in-Some.mount c.in-Some.is c.if-not-mount.false within (sym c.is_outside.ensures ∙ c.if-is_outside.false)) (written ∙ ap (λ bs. with_block c.args.volumes.now c.in-Some.mount.volume c.args.p.now.block bs) read)
