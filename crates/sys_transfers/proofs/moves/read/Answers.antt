use Rattle.std.proofs.Common.{◌*◌, ◌∙◌, sym, arith}
use Rattle.sys_transfers.specs.Serves.{packet_of}
use Rattle.sys_transfers.proofs.Moving.{block_within, lie_inside, on_err, on_ok, read_moves, read_no_block, read_no_memory, read_nothing, reads_block, refuses}
use Rattle.sys_transfers.proofs.moves.read.Goals as goal

pub returns-in_default : goal.returns-in_default
returns-in_default g c = refuses 3 _ (packet_of c.args.p.now) c.args.volumes.now (g.H.Hardware.machine c.args.machine.now) c.args.guest.now c.requires.stands (read_nothing (512 * c.args.guest.now.state.pages) c.args.volumes.now c.args.unit (packet_of c.args.p.now) c.in_default.is)

pub returns-then-is_err : goal.returns-then-is_err
returns-then-is_err g c = refuses 5 _ (packet_of c.args.p.now) c.args.volumes.now (g.H.Hardware.machine c.args.machine.now) c.args.guest.now c.requires.stands (read_no_block (512 * c.args.guest.now.state.pages) c.args.volumes.now c.args.unit (packet_of c.args.p.now) c.in-Some.mount c.in-Some.is (on_err c.read_block.result (sym c.is_err.ensures.value ∙ c.if-is_err.true) c.read_block.ensures.err).0)

pub returns-then-is_outside : goal.returns-then-is_outside
returns-then-is_outside g c =
    let has = on_ok c.read_block.result (sym c.is_err.ensures.value ∙ c.if-is_err.false) c.read_block.ensures.ok in
    let within = block_within c.args.volumes.now c.in-Some.mount.volume c.args.p.now.block c.read_block.new.into has in
    refuses 6 _ (packet_of c.args.p.now) c.args.volumes.now (g.H.Hardware.machine c.args.machine.now) c.args.guest.now c.requires.stands (read_no_memory (512 * c.args.guest.now.state.pages) c.args.volumes.now c.args.unit (packet_of c.args.p.now) c.in-Some.mount c.in-Some.is within (sym c.is_outside.ensures ∙ c.if-is_outside.true))

pub store-requires-clause-inside : goal.store-requires-clause-inside
store-requires-clause-inside g c = omega (arith, c.read_block.array_long, lie_inside (512 * c.args.guest.now.state.pages) c.args.p.now.buffer 512 (sym c.is_outside.ensures ∙ c.if-is_outside.false))

pub returns : goal.returns
returns g c =
    let has = on_ok c.read_block.result (sym c.is_err.ensures.value ∙ c.if-is_err.false) c.read_block.ensures.ok in
    let within = block_within c.args.volumes.now c.in-Some.mount.volume c.args.p.now.block c.read_block.new.into has in
    reads_block c.in-Some.mount.volume _ (packet_of c.args.p.now) c.args.volumes.now c.read_block.new.into (g.H.Hardware.machine c.args.machine.now) c.args.guest.now (g.H.Hardware.machine c.store.new.machine) c.store.new.self (read_moves (512 * c.args.guest.now.state.pages) c.args.volumes.now c.args.unit (packet_of c.args.p.now) c.in-Some.mount c.in-Some.is within (sym c.is_outside.ensures ∙ c.if-is_outside.false)) has c.store.ensures.becomes c.read_block.array_long c.store.ensures.drops
